-- An accepted request's AID lies in the command and has 5 to 16 bytes, and a quota is 1 up to the capacity. Each reader's definition is
-- followed to the branches that hand something on, where the laws of what was read give the bounds.
use Prim.Native.Nat.{ℕ, ◌-◌, ◌≤◌}
use mathlib.Core.Path.{sym, subst}
use mathlib.Core.List.{List}
use mathlib.Core.Bool.{Bool}
use native.Mathlib.Omega.{arith}
use Rattle.base_bytes.specs.Bytes.{between}
use Rattle.read_tlv.specs.Tlv.{expect_at}
use Rattle.base_choice.proofs.Branches.{each, each-eq, each-lt}
use Rattle.read_tlv.proofs.Inside.{Expected, expect-parts}
use Rattle.read_tlv.specs.Lists.{list_wrong}
use Rattle.read_elements.specs.Reader.{alone_at}
use Rattle.read_fields.specs.StoreData.{dgi_at, confirmation_at, request_named, store_data_at}
use Rattle.read_fields.specs.Delete.{verification_at, deletion_at}
use Rattle.read_fields.specs.GetStatus.{tags_at, listing_at}
use Rattle.read_elements.proofs.Alone.{alone-expected}
use Rattle.read_fields.proofs.Cases.{each-dgi, each-filled, each-shown}
use Rattle.read_tlv.proofs.Branches.{each-found}
use Rattle.read_install.proofs.Inside.{install-inside}
use Rattle.read_frame.specs.Framing.{data_end}
use Rattle.read_command.specs.Requests.{goes_on, field_of}
use Rattle.read_command.specs.Grammar.{ReadInside}
use Rattle.read_fields.specs.Places.{Placed, FieldIn}
use Rattle.read_command.proofs.Answers.{read_done}

module _ (s : List ℕ) (capacity at end : ℕ) where
  placed : (t low start stop : ℕ) → 5 ≤ stop - start → Expected s at end t low 16 start stop → Placed s (between start stop)
  placed t low start stop h x = let i = x.inside in record { held = omega arith; least = h; most = x.most }

module _ (s : List ℕ) (capacity end : ℕ) where
  store-data-in : FieldIn s capacity (store_data_at s 5 end)
  unfolding store_data_at confirmation_at request_named
  store-data-in = each-dgi (FieldIn s capacity) (dgi_at s 5 end) tt λ n contents _.
      each (FieldIn s capacity) (list_wrong s contents end) (λ _. tt) λ _. each-eq (FieldIn s capacity) (λ _. each-found (FieldIn s capacity) (alone_at s contents end 0x4E 2 2) tt (λ k e q. tt))
      (λ _. each-found (FieldIn s capacity) (alone_at s contents end 0x4F 5 16) tt (λ k e q.
      let x = alone-expected s contents end 0x4F 5 16 k e q in
      let p = placed s capacity contents end 0x4F 5 k e x.least x in
      each-eq (FieldIn s capacity) (λ _. p) (λ _. each-eq (FieldIn s capacity) (λ _. p)
      (λ _. each-eq (FieldIn s capacity) (λ _. p) (λ _. tt)))))

  deletion-in : FieldIn s capacity (deletion_at s 5 end)
  unfolding deletion_at
  deletion-in = each (FieldIn s capacity) (list_wrong s 5 end) (λ _. tt) λ _. each-found (FieldIn s capacity) (expect_at s 5 end 0x4F 5 16) tt λ k e q.
      let x = expect-parts s 5 end 0x4F 5 16 k e q in
      let p = placed s capacity 5 end 0x4F 5 k e x.least x in
      each-eq (FieldIn s capacity) (λ _. p) (λ _. each-found (FieldIn s capacity) (expect_at s e end 0xB6 0 255) tt (λ f t _.
      each-filled (FieldIn s capacity) (verification_at s f t) tt
      (λ _. each-found (FieldIn s capacity) (alone_at s t end 0x9E 1 255) tt (λ _ _ _. p))))

  listing-in : (next : Bool) → FieldIn s capacity (listing_at next s 5 end)
  unfolding listing_at
  listing-in next = each (FieldIn s capacity) (list_wrong s 5 end) (λ _. tt) λ _. each-found (FieldIn s capacity) (expect_at s 5 end 0x4F 0 16) tt λ k e q.
      let x = expect-parts s 5 end 0x4F 0 16 k e q in
      each-shown (FieldIn s capacity) (tags_at s e end) tt λ l m _.
      each-eq (FieldIn s capacity) (λ _. tt) (λ _. each (FieldIn s capacity) _ (λ _. tt) λ _. each-lt (FieldIn s capacity) (λ _. tt) (λ h.
      placed s capacity 5 end 0x4F 0 k e h x))

module _ (s : List ℕ) (capacity : ℕ) where
  pub field_in : FieldIn s capacity (field_of s capacity)
  unfolding field_of
  field_in =
      each-eq (FieldIn s capacity) (λ _. install-inside s 5 (data_end s) capacity)
      (λ _. each-eq (FieldIn s capacity) (λ _. deletion-in s capacity (data_end s))
      (λ _. each-eq (FieldIn s capacity) (λ _. store-data-in s capacity (data_end s))
      (λ _. each-eq (FieldIn s capacity) (λ _. listing-in s capacity (data_end s) (goes_on s)) (λ _. tt))))

pub read-inside : ReadInside
read-inside s capacity r q = subst (FieldIn s capacity) (sym (read_done s capacity r q).1) (field_in s capacity)
