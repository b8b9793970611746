-- A command that writes a confirmation is answered by the rows that look at the card, and of these two are left: no change is open, and
-- the number is not the outstanding one.
use mathlib.Core.Path.{◌≡◌, refl, ap, sym, ◌∙◌}
use Prim.Native.Nat.{ℕ, ◌≤◌}
use mathlib.Core.List.{List}
use mathlib.Core.Bool.{Bool, true, false, not, cond, false≢true}
use Rattle.base_status.specs.StatusWords.{is_done}
use Rattle.base_status.specs.Rows.{word_of}
use Rattle.base_status.specs.declared.Status.TheVariants.{StateWrong, NotHeld, Done}
use Rattle.card_isdp.proofs.Bools.{and_l, and_r}
use Rattle.card_places.proofs.Seeks.{enabled-at}
use Rattle.card_record.specs.Cards.{is_quiet, enabled_place}
use Rattle.card_record.specs.Sound.{sound}
use Rattle.card_record.proofs.Sounds.{parts}
use Rattle.card_record.specs.Clock.{outstanding}
use Rattle.card_record.specs.declared.Card.{Card}
use Rattle.card_record.specs.declared.Phase.{Phase}
use Rattle.card_record.specs.declared.Phase.TheVariants.{Quiet, Trial, Back, Fallen}
use Rattle.read_fields.specs.Grammar.{confirmation, store_data}
use Rattle.read_command.specs.Grammar.{Encodes}
use Rattle.rule_steps.proofs.Rows.{Passed}
use Rattle.rule_steps.specs.Asked.{Asked, Asked.unread, Asked.create, Asked.on, Asked.confirm, Asked.status_of_all, Asked.get_data, Asked.tick, Asked.lost}
use Rattle.rule_run.specs.Calls.{Call.Command, asked}
use Rattle.rule_run.specs.Table.{least_buffer}
use Rattle.rule_run.specs.Step.{step}
use Rattle.rule_run.proofs.Kept.{step-sound}
use Rattle.rule_run.specs.Runs.{is_confirmation}
use Rattle.proof_demands.specs.Confirmation.{ConfirmationTaken, ConfirmationCloses}
use Rattle.rule_run.proofs.Taken.{card-passed, taken-sound}
use Rattle.proof_demands.proofs.Frames.{confirm-does}
use Rattle.proof_demands.proofs.Named.{aid-enabled}
use Rattle.rule_run.proofs.Words.{word-is}
use Rattle.proof_demands.proofs.Written.{written-word}

-- a confirmation that is accepted is of an open change
confirm-open : (c : Card) (a : Asked) → is_confirmation a ≡ true → Passed c a → is_quiet c.phase ≡ false
confirm-open c unread e p = absurd (false≢true e)
confirm-open c (create aid quota) e p = absurd (false≢true e)
confirm-open c (on aid act) e p = absurd (false≢true e)
confirm-open c (confirm number) e p = p.change
confirm-open c (status_of_all next life fallback) e p = absurd (false≢true e)
confirm-open c get_data e p = absurd (false≢true e)
confirm-open c tick e p = absurd (false≢true e)
confirm-open c lost e p = absurd (false≢true e)

-- the two rows, where no number is outstanding in Quiet
none-quiet : (p : Phase) (number : ℕ) → is_quiet p ≡ true → outstanding p number ≡ false
none-quiet Quiet number e = refl
none-quiet (Trial previous left n) number e = absurd (false≢true e)
none-quiet (Back left n) number e = absurd (false≢true e)
none-quiet (Fallen left n) number e = absurd (false≢true e)

two-rows : (quiet mine : Bool) → (quiet ≡ true → mine ≡ false) → is_done (cond quiet StateWrong (cond (not mine) NotHeld Done)) ≡ mine
two-rows true true f = sym (f refl)
two-rows true false f = refl
two-rows false true f = refl
two-rows false false f = refl

pub confirmation-closes : ConfirmationCloses
confirmation-closes c call e =
    let a = and_l (is_confirmation (asked c call)) _ e in
    let t = and_r (is_confirmation (asked c call)) _ e in
    let s = taken-sound c call t in
    let d = (step c call).card in
    let x = confirm-does c call s a t in
    let on = x.enabled (enabled_place c) ∙ enabled-at c.places (parts c s).roles.one in
    record {
      was-open = confirm-open c (asked c call) a (card-passed c call t);
      quiet = x.quiet;
      enabled = aid-enabled c d (enabled_place c) (step-sound c call s) on (x.named (enabled_place c) on);
      last = x.last;
    }

-- the word of a written one
pub confirm-status : (c : Card) (verdict : ℕ) (s : List ℕ) (room number : ℕ) → sound c ≡ true → least_buffer ≤ room → Encodes c.capacity (store_data (confirmation number)) s → (step c (Command verdict s room)).status ≡ cond (is_quiet c.phase) StateWrong (cond (not (outstanding c.phase number)) NotHeld Done)
unfolding word_of
confirm-status c verdict s room number e h encoded = written-word c verdict s room (store_data (confirmation number)) e h encoded

pub confirmation-taken : ConfirmationTaken
confirmation-taken c verdict s room number e h encoded =
    ap is_done (sym (word-is c (Command verdict s room)) ∙ confirm-status c verdict s room number e h encoded)
    ∙ two-rows (is_quiet c.phase) (outstanding c.phase number) (none-quiet c.phase number)
