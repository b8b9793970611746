-- A policy update, both directions. What is accepted passed all rows, so it is framed, and its data field came by the one branch that finds a
-- policy. Framed, it passes the rows before its data field, which is read back as a DGI with one element alone in it.
use Prim.Native.Nat.{ℕ, ◌+◌, ◌≤◌}
use mathlib.Core.Path.{◌≡◌, refl, sym, ap, ◌∙◌}
use mathlib.Core.List.{List, [], ◌∷◌}
use mathlib.Core.Bool.{false}
use native.Mathlib.Omega.{arith}
use lib.ListN.{length}
use borrow.Author.Tests.{eqb-true, not-false}
use Rattle.std.specs.Prelude.{Some, None, Ok}
use Rattle.base_bytes.specs.Bytes.{byte}
use Rattle.base_choice.proofs.Branches.{no!, each, by-eq, eq! }
use Rattle.read_tlv.specs.Tlv.{element_read}
use Rattle.read_tlv.specs.Lists.{list_wrong}
use Rattle.read_tlv.specs.Encoding.{window, Bytes, encode_element}
use Rattle.read_tlv.proofs.Branches.{each-found}
use Rattle.read_tlv.proofs.Windows.{window-starts}
use Rattle.read_tlv.proofs.Written.{window-one}
use Rattle.read_elements.specs.Reader.{alone_at}
use Rattle.read_elements.proofs.Alone.{alone-expected}
use Rattle.read_frame.specs.Framing.{data_end}
use Rattle.read_frame.proofs.Framed.{stands, stands-passes, passes-framed}
use Rattle.read_fields.specs.StoreData.{dgi_read, dgi_at}
use Rattle.read_fields.specs.Grammar.{encode_dgi}
use Rattle.read_fields.proofs.Cases.{each-dgi}
use Rattle.read_fields.proofs.Parts.{dgi-filled, lone-back, lone-written}
use Rattle.read_operator.specs.Field.{policy_at, policy_of, is_policy_wrong, Policy}
use Rattle.read_operator.specs.Reading.{not_store_data, policy_wrong, update_read, update_of}
use Rattle.read_operator.specs.Grammar.{encode_policy, UpdateBack, UpdateWritten, UpdateFilled}
use Rattle.read_operator.proofs.Answers.{Passes, read_done, read-passes, passes-answer}

-- ---- what is accepted is so encoded

-- where the policy that was found stands
pub record PolicyParts (s : List ℕ) (at end p : ℕ) : Type 0 where
  pub contents : ℕ
  pub start : ℕ
  pub stop : ℕ
  pub opened : dgi_read 0x3A06 contents ≡ dgi_at s at end
  pub listed : list_wrong s contents end ≡ false
  pub found : element_read start stop ≡ alone_at s contents end 0x81 1 1
  pub value : p ≡ byte s start

module _ (s : List ℕ) (at end p : ℕ) where
  abbrev Accepted : Policy → Type 0
  Accepted z = Some p ≡ z → PolicyParts s at end p

  none : Accepted None
  none q = let z : ◌≡◌ {A = ℕ} 0 1 = cc in absurd (omega arith)

  one_found : (number contents start stop : ℕ) → dgi_read number contents ≡ dgi_at s at end → list_wrong s contents end ≡ false → number ≡ 0x3A06
      → element_read start stop ≡ alone_at s contents end 0x81 1 1 → Accepted (Some (byte s start))
  one_found number contents start stop d e h g q =
      record { contents = contents; start = start; stop = stop; opened = ap (λ (n : ℕ). dgi_read n contents) (sym h) ∙ d; listed = e; found = g; value = cc }

  policy-parts : Accepted (policy_at s at end)
  unfolding policy_at
  policy-parts = each-dgi Accepted (dgi_at s at end) none λ number contents d. each Accepted (list_wrong s contents end) (λ _. none) λ e.
      by-eq Accepted number 0x3A06 (λ h. each-found Accepted (alone_at s contents end 0x81 1 1) none λ start stop g. one_found number contents start stop d e h g) (λ _. none)

policy-written : (s : List ℕ) (at end p : ℕ) → Bytes s → PolicyParts s at end p → window s at end ≡ encode_policy p
policy-written s at end p b r =
    let x = alone-expected s r.contents end 0x81 1 1 r.start r.stop r.found in
    let i = x.inside in let l = x.least in let m = x.most in
    let w : window s r.start r.stop ≡ p ∷ [] =
    ap (window s r.start) {x = r.stop} {y = r.start + 1} (omega arith) ∙ window-one s r.start (omega arith) ∙ ap (λ (n : ℕ). n ∷ []) (sym r.value) in
    lone-written s at end 0x3A06 r.contents 0x81 1 1 r.start r.stop b r.opened r.found
    ∙ ap (λ (v : List ℕ). encode_dgi 0x3A06 (encode_element 0x81 v)) w

found-parts : (s : List ℕ) (p : ℕ) → Ok p ≡ update_of s → PolicyParts s 5 (data_end s) p
unfolding policy_of
found-parts s p q = policy-parts s 5 (data_end s) p (read_done s p q).1

instructed : (s : List ℕ) → Passes s → byte s 1 ≡ 0xE2
unfolding not_store_data
instructed s p = eqb-true _ _ (not-false _ p.instruction_right)

pub update-written : UpdateWritten
update-written s p b q =
    let r = read-passes s p q in
    (passes-framed s r 0xE2 (λ field. field ≡ encode_policy p) b (instructed s r) (omega arith) (policy-written s 5 (data_end s) p b (found-parts s p q))).0

pub update-filled : UpdateFilled
update-filled s p q = let r = found-parts s p q in dgi-filled s 5 (data_end s) 0x3A06 r.contents r.opened r.listed

-- ---- an encoded update is read back

policy-back : (s : List ℕ) (at end : ℕ) → at ≤ end → end ≤ length s → (p : ℕ) → window s at end ≡ encode_policy p → Some p ≡ policy_at s at end
unfolding policy_at
policy-back s at end ordered held p q =
    let a = lone-back s at end ordered held 0x3A06 0x81 1 1 (p ∷ []) (omega arith) (omega arith) refl (omega arith) (omega arith) (omega arith) q in
    let l = a.long in
    let x = window-starts s a.start end (omega arith) held p [] a.value in
    rw (← a.opened) (no! _ a.listed (eq! _ refl (rw (← a.found) (ap Some (sym x.first)))))

pub update-back : UpdateBack
unfolding not_store_data policy_wrong policy_of
update-back s p f =
    let t = stands s 0xE2 (λ field. field ≡ encode_policy p) (omega arith) f in
    let q = policy-back s 5 (data_end s) t.ordered t.held p t.encoded in
    ap update_read q
    ∙ passes-answer s (stands-passes s 0xE2 f.p2 (λ field. field ≡ encode_policy p) (not_store_data s) (policy_wrong s) t (rw t.instructed refl) (ap is_policy_wrong (sym q)))
