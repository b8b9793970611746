-- The word of success of every call is a success, whichever of the two it is. By cases on the call. Assumes nothing.
use mathlib.Core.Path.{◌≡◌, refl}
use Prim.Native.Nat.{ℕ}
use mathlib.Core.Bool.{Bool, true, false, cond}
use lib.Dec.{eqb}
use Rattle.base_status.specs.StatusWords.{is_done}
use Rattle.base_status.specs.declared.Status.TheVariants.{More, Done}
use Rattle.card_record.specs.Cards.{no_place}
use Rattle.card_record.specs.declared.Card.{Card}
use Rattle.rule_steps.specs.Asked.{Asked, Asked.unread, Asked.create, Asked.on, Asked.confirm, Asked.status_of_all, Asked.get_data, Asked.tick, Asked.lost}
use Rattle.rule_steps.specs.Steps.{goes_on_at, part_word, success_of}

part-case : (b : Bool) → is_done (cond b Done More) ≡ true
part-case true = refl
part-case false = refl

pub part-done : (left : ℕ) → is_done (part_word left) ≡ true
part-done left = part-case (eqb left no_place)

pub success-done : (c : Card) (a : Asked) → is_done (success_of c a) ≡ true
success-done c unread = refl
success-done c (create aid quota) = refl
success-done c (on aid act) = refl
success-done c (confirm number) = refl
success-done c (status_of_all next life fallback) = part-done (goes_on_at c next life fallback)
success-done c get_data = refl
success-done c tick = refl
success-done c lost = refl
