-- No answer has more than 255 response bytes, whatever the card and the call: a card that is not sound is refused, and on a sound
-- one each response is within the length its kind has, as the places and the AID deleted bear 16 bytes of AID. Assumes nothing.
use mathlib.Core.Path.{◌≡◌, refl}
use Prim.Native.Nat.{ℕ, ◌≤◌}
use native.Mathlib.Omega.{arith}
use mathlib.Core.List.{List}
use mathlib.Core.Bool.{Bool, true, false, cond}
use lib.ListN.{length}
use borrow.Author.Tests.{leb-true}
use Rattle.base_status.specs.StatusWords.{is_done}
use Rattle.base_status.specs.Rows.{word_of}
use Rattle.base_status.specs.declared.Status.{Status}
use Rattle.card_isdp.specs.Sizes.{most_aid}
use Rattle.card_isdp.specs.Aids.{no_aid}
use Rattle.card_isdp.specs.declared.Aid.{Aid}
use Rattle.card_places.specs.Places.{at, all_of}
use Rattle.card_record.specs.Sound.{sound}
use Rattle.card_record.specs.Clock.{dropped}
use Rattle.card_record.specs.Steps.{gone_in, confirm_step}
use Rattle.card_record.specs.Answers.{refused, accepted}
use Rattle.card_record.specs.declared.Card.{Card}
use Rattle.card_record.specs.declared.Step.{Step}
use Rattle.card_record.specs.declared.Phase.{Phase}
use Rattle.card_record.specs.declared.Phase.TheVariants.{Quiet, Trial, Back, Fallen}
use Rattle.rule_responses.proofs.Lengths.{aid_fits, all-at, sound-fits, one-length, data-length, deleted-length}
use Rattle.rule_responses.proofs.Parts.{part-short}
use Rattle.rule_steps.specs.Asked.{Act, Act.enable, Act.disable, Act.delete, Act.master_delete, Act.set_fall_back, Act.status, Act.keyed, Act.stored, Act.finished, Act.set_policy, Asked, Asked.unread, Asked.create, Asked.on, Asked.confirm, Asked.status_of_all, Asked.get_data, Asked.tick, Asked.lost}
use Rattle.card_record.specs.Cards.{place_of}
use Rattle.rule_steps.specs.Steps.{step_of, begins_at, act_response, response_of}
use Rattle.rule_run.specs.Calls.{asked}
use Rattle.rule_run.specs.Table.{table}
use Rattle.rule_run.specs.Step.{work, step_by}
use Rattle.rule_run.specs.Statements.{ResponseMost}
use Rattle.rule_run.proofs.Kept.{rows-accepted}

-- an AID handed out has sixteen bytes at the most
abbrev bytes_fit : Aid → Type 0
bytes_fit a = length a.bytes ≤ 16

trial-gone : (c : Card) (previous : ℕ) → all_of aid_fits c.places ≡ true → (b : Bool) → bytes_fit (cond b (at c.places previous).aid no_aid)
trial-gone c previous f true = leb-true (length (at c.places previous).aid.bytes) most_aid (all-at aid_fits c.places previous f refl)
trial-gone c previous f false = omega arith

gone-fits : (c : Card) (p : Phase) → all_of aid_fits c.places ≡ true → bytes_fit (gone_in p c)
gone-fits c Quiet f = omega arith
gone-fits c (Trial previous left number) f = trial-gone c previous f (dropped c previous)
gone-fits c (Back left number) f = omega arith
gone-fits c (Fallen left number) f = omega arith

act-most : (c : Card) (aid : List ℕ) (act : Act) → sound c ≡ true → length (act_response c aid act) ≤ 255
act-most c aid enable s = omega arith
act-most c aid disable s = omega arith
act-most c aid delete s = omega arith
act-most c aid (master_delete verdict) s = omega arith
act-most c aid set_fall_back s = omega arith
act-most c aid (status life fallback) s = omega (arith, one-length c (place_of c aid) life fallback (sound-fits c s))
act-most c aid keyed s = omega arith
act-most c aid (stored n) s = omega arith
act-most c aid (finished policy mark) s = omega arith
act-most c aid (set_policy policy) s = omega arith

asked-most : (c : Card) (a : Asked) → sound c ≡ true → length (response_of c a) ≤ 255
unfolding confirm_step
asked-most c unread s = omega arith
asked-most c (create aid quota) s = omega arith
asked-most c (on aid act) s = act-most c aid act s
asked-most c (confirm number) s = omega (arith, deleted-length (gone_in c.phase c) (gone-fits c c.phase (sound-fits c s)))
asked-most c (status_of_all next life fallback) s = part-short c life fallback (begins_at c next)
asked-most c get_data s = omega (arith, data-length c)
asked-most c tick s = omega arith
asked-most c lost s = omega arith

response-case : (c : Card) (w : Status) (s : Step) (rsp : List ℕ) (b : Bool) → is_done w ≡ b → (is_done w ≡ true → length rsp ≤ 255) → length (cond b (accepted w s rsp) (refused c w)).response ≤ 255
unfolding accepted refused
response-case c w s rsp true e f = f e
response-case c w s rsp false e f = omega arith

pub response-most : ResponseMost
unfolding step_by
response-most c call =
    let word = word_of (work c call).success (table c call) in
    response-case c word (step_of c (asked c call)) (response_of c (asked c call)) (is_done word) refl
    (λ e. asked-most c (asked c call) (rows-accepted c call (work c call).success e).whole)
