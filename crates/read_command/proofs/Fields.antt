-- What a data field asks for, beside what its reader answers: the five fields that an instruction selects. By cases on the answers.
use Prim.Native.Nat.{ℕ}
use mathlib.Core.Path.{◌≡◌, refl}
use mathlib.Core.List.{List}
use mathlib.Core.Option.{some}
use mathlib.Core.Bool.{false}
use native.Mathlib.Omega.{arith}
use Rattle.std.specs.Prelude.{Some, None}
use Rattle.base_bytes.specs.Bytes.{byte}
use Rattle.base_choice.proofs.Branches.{eq!, ne! }
use Rattle.read_fields.specs.StoreData.{store_data_at}
use Rattle.read_fields.specs.Delete.{deletion_at}
use Rattle.read_fields.specs.GetStatus.{listing_at}
use Rattle.read_fields.specs.Grammar.{Wanted, found_as}
use Rattle.read_install.specs.Install.{install_of}
use Rattle.read_fields.specs.declared.request.Request.TheVariants as request
use Rattle.read_fields.specs.Found.{Field}
use Rattle.read_frame.specs.Framing.{data_end}
use Rattle.read_command.specs.Requests.{goes_on, field_of, is_field_wrong}
use Rattle.read_command.specs.Reading.{request_read}
use Rattle.read_command.specs.Grammar.{read_as}

module _ (s : List ℕ) where
  pub accepted-as : (f : Field) → read_as s (request_read f) ≡ found_as s f
  accepted-as None = refl
  accepted-as (Some r) = refl

  pub right-as : (f : Field) (v : Wanted) → found_as s f ≡ some v → is_field_wrong f ≡ false
  right-as None v q = let z : ◌≡◌ {A = ℕ} 0 1 = cc in absurd (omega arith)
  right-as (Some r) v q = refl

  -- the field that the instruction selects
  module _ (capacity : ℕ) where
    pub field-create : byte s 1 ≡ 0xE6 → install_of s 5 (data_end s) capacity ≡ field_of s capacity
    unfolding field_of
    field-create h = eq! _ h refl

    pub field-deletion : byte s 1 ≡ 0xE4 → deletion_at s 5 (data_end s) ≡ field_of s capacity
    unfolding field_of
    field-deletion h = ne! _ (omega arith) (eq! _ h refl)

    pub field-store-data : byte s 1 ≡ 0xE2 → store_data_at s 5 (data_end s) ≡ field_of s capacity
    unfolding field_of
    field-store-data h = ne! _ (omega arith) (ne! _ (omega arith) (eq! _ h refl))

    pub field-listing : byte s 1 ≡ 0xF2 → listing_at (goes_on s) s 5 (data_end s) ≡ field_of s capacity
    unfolding field_of
    field-listing h = ne! _ (omega arith) (ne! _ (omega arith) (ne! _ (omega arith) (eq! _ h refl)))

    pub field-get-data : byte s 1 ≡ 0xCA → Some request.GetData ≡ field_of s capacity
    unfolding field_of
    field-get-data h = ne! _ (omega arith) (ne! _ (omega arith) (ne! _ (omega arith) (ne! _ (omega arith) refl)))
