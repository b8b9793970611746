-- The same data field asks for the same tags with either P2. Where one is read its data field is encoded; no encoding of an empty 4F
-- depends on whether the listing goes on, so with the other P2 it is encoded too, and read back.
use Prim.Native.Nat.{ℕ, ◌≤◌}
use mathlib.Core.Path.{◌≡◌, refl, sym, ap, subst, ◌∙◌}
use mathlib.Core.List.{List, []}
use mathlib.Core.Bool.{Bool, true, false}
use lib.ListN.{length}
use Rattle.read_tlv.specs.Encoding.{window}
use Rattle.read_fields.specs.Grammar.{inquiry, get_status, all, EncodesListed}
use Rattle.read_frame.specs.Framing.{class_right, parameters_right, data_end}
use Rattle.read_command.specs.Grammar.{second_of, listing_of, Listing, SameTags}
use Rattle.read_frame.proofs.Framed.{field-window}
use Rattle.read_command.proofs.ReadBack.{command-back}
use Rattle.read_command.proofs.Written.{command-written}

pub encodes-alike : (next next' life shown : Bool) (bytes : List ℕ) → EncodesListed (inquiry next [] life shown) bytes → EncodesListed (inquiry next' [] life shown) bytes
encodes-alike next next' life shown bytes e =
    record { tags = e.tags; sought = all; short = e.short; life_asked = e.life_asked; fall_back_asked = e.fall_back_asked; written = e.written }

pub second-right : (next : Bool) → parameters_right 0xF2 0x40 (second_of next) ≡ true
unfolding parameters_right
second-right false = refl
second-right true = refl

module _ (next next' : Bool) (class class' : ℕ) (with_le with_le' : Bool) (field : List ℕ) (life shown : Bool) where
  listing-alike : Listing (inquiry next [] life shown) (listing_of class next field with_le) → class_right class' ≡ true
      → Listing (inquiry next' [] life shown) (listing_of class' next' field with_le')
  listing-alike e right =
      let f = e.command in
      let same : f.field ≡ field =
      sym (field-window f.class 0xF2 f.p1 f.p2 f.field f.with_le)
      ∙ ap (λ (z : List ℕ). window z 5 (data_end z)) (sym f.written)
      ∙ field-window class 0xF2 0x40 (second_of next) field with_le in
      record {
        command = record {
          class = class';
          p1 = 0x40;
          p2 = second_of next';
          field = field;
          with_le = with_le';
          right_class = right;
          right_parameters = second-right next';
          least = subst (λ (z : List ℕ). 1 ≤ length z) same f.least;
          most = subst (λ (z : List ℕ). length z ≤ 255) same f.most;
          encoded = encodes-alike next next' life shown field (subst (EncodesListed (inquiry next [] life shown)) same f.encoded);
          written = refl;
        };
        second = refl;
      }

pub same-tags : SameTags
same-tags next next' class class' with_le with_le' field capacity life shown b q right =
    command-back (listing_of class' next' field with_le') capacity (get_status (inquiry next' [] life shown))
    (listing-alike next next' class class' with_le with_le' field life shown
    (command-written (listing_of class next field with_le) capacity (get_status (inquiry next [] life shown)) b q) right)
