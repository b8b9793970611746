-- What one call does to an open change: a tick ticks, the confirmation of the outstanding number closes it, and any other call leaves
-- it as it was. By what the call asks; an accepted one has passed every row of the table, which gives the facts. Assumes nothing.
use mathlib.Core.Path.{◌≡◌, refl, sym, ◌∙◌}
use Prim.Native.Nat.{ℕ, zero, suc}
use mathlib.Core.List.{List, [], ◌∷◌}
use mathlib.Core.Bool.{Bool, true, false, not, ◌&&◌, false≢true}
use lib.ListN.{set}
use lib.Dec.{eqb}
use borrow.Author.Tests.{eqb-true, not-false}
use Rattle.std.proofs.lemmas.Bool.{cond_both}
use Rattle.std.specs.Prelude.{Some, None}
use Rattle.base_status.specs.Rows.{word_of}
use Rattle.card_isdp.specs.LifeCycle.{selectable, personalized, is_enabled}
use Rattle.card_isdp.specs.Place.{vacant}
use Rattle.card_isdp.specs.declared.Isdp.{Isdp}
use Rattle.card_isdp.proofs.Bools.{and_l, or_l, or_r}
use Rattle.card_places.specs.Places.{at}
use Rattle.card_places.proofs.Sets.{set-unseen}
use Rattle.card_record.specs.Cards.{no_place, keeping, forgotten, is_quiet, place_of, profile_of, with_places, with_phase}
use Rattle.card_record.specs.Sound.{sound}
use Rattle.card_record.specs.Clock.{outstanding, dropped, tick_of, without_network, confirm_in, confirm_of}
use Rattle.card_record.specs.Steps.{tick_step, lost_step, confirm_step}
use Rattle.card_record.specs.Answers.{accepted}
use Rattle.card_record.specs.declared.Card.{Card}
use Rattle.card_record.specs.declared.Phase.{Phase}
use Rattle.card_record.specs.declared.Phase.TheVariants.{Quiet, Trial, Back, Fallen}
use Rattle.card_record.proofs.Sounds.{Phased, parts}
use Rattle.card_record.proofs.Outcomes.{decide-card}
use Rattle.read_fields.specs.declared.request.Request.{Request}
use Rattle.read_fields.specs.declared.request.Request.TheVariants as request
use Rattle.read_fields.specs.Found.{Field}
use Rattle.read_command.specs.Requests.{field_of}
use Rattle.rule_steps.proofs.Rows.{Passed}
use Rattle.read_operator.specs.Field.{policy_of, Policy}
use Rattle.rule_steps.specs.Asked.{Act, Act.enable, Act.disable, Act.delete, Act.master_delete, Act.set_fall_back, Act.status, Act.keyed, Act.stored, Act.finished, Act.set_policy, Asked, Asked.unread, Asked.create, Asked.on, Asked.confirm, Asked.status_of_all, Asked.get_data, Asked.tick, Asked.lost}
use Rattle.rule_steps.specs.Steps.{goes_on_at, step_of, response_of}
use Rattle.rule_run.proofs.Taken.{card-passed}
use Rattle.rule_run.specs.Calls.{Call, Call.Command, Call.Keyed, Call.Stored, Call.Finished, Call.Tick, Call.Lost, Call.PolicyUpdate, asked, request_asks, field_asks, policy_asks}
use Rattle.rule_run.specs.Step.{step, step_by}
use Rattle.rule_run.specs.Runs.{taken, is_tick, is_confirmation, table_word}
use Rattle.proof_demands.specs.Change.{Unmoved, Frame, OnlyOutstanding}

pub same : (c : Card) → Unmoved c c
same c = record { phase = refl; enabled = λ i. refl; named = λ i. refl; fallback = refl; last = refl }

-- only the kept place is new
pub same_kept : (c : Card) (i : ℕ) → Unmoved c (keeping c i)
same_kept c i = record { phase = refl; enabled = λ i. refl; named = λ i. refl; fallback = refl; last = refl }

-- a place rewritten that was not enabled and is not, with the AID that it had
rewritten-same : (c : Card) (i : ℕ) (x : Isdp) → is_enabled x ≡ is_enabled (at c.places i) → x.aid ≡ (at c.places i).aid → Unmoved c (with_places c (set c.places i x))
rewritten-same c i x e n =
    record { phase = refl; enabled = set-unseen is_enabled x c.places i e; named = set-unseen (λ p. p.aid) x c.places i n; fallback = refl; last = refl }

open_row : (c : Card) → is_quiet c.phase ≡ false → not (is_quiet c.phase) ≡ false → ⊥
open_row c o h = false≢true (sym o ∙ not-false _ h)

lost-open : (c : Card) → is_quiet c.phase ≡ false → without_network c ≡ forgotten c
unfolding without_network
lost-open c o = rw o

abbrev is_ticking : Asked → Bool
is_ticking unread = false
is_ticking (create aid quota) = false
is_ticking (on aid act) = false
is_ticking (confirm number) = false
is_ticking (status_of_all next life fallback) = false
is_ticking get_data = false
is_ticking tick = true
is_ticking lost = false

act-same : (c : Card) (aid : List ℕ) (act : Act) → is_quiet c.phase ≡ false → Passed c (on aid act) → Unmoved c (step_of c (on aid act)).card
act-same c aid enable o p = absurd (open_row c o p.change)
act-same c aid disable o p = absurd (open_row c o p.change)
act-same c aid delete o p = absurd (open_row c o p.change)
act-same c aid (master_delete verdict) o p = absurd (open_row c o p.change)
act-same c aid set_fall_back o p = absurd (open_row c o p.change)
act-same c aid (set_policy policy) o p = absurd (open_row c o p.change)
act-same c aid (status life fallback) o p = same_kept c no_place
act-same c aid keyed o p =
    rewritten-same c (place_of c aid) _ (rw (eqb-true (profile_of c aid).life selectable (not-false _ p.state))) refl
act-same c aid (stored n) o p =
    rewritten-same c (place_of c aid) _ refl refl
act-same c aid (finished policy mark) o p =
    rewritten-same c (place_of c aid) _ (rw (eqb-true (profile_of c aid).life personalized (and_l (eqb (profile_of c aid).life personalized) _ (not-false _ p.state)))) refl

asked-same : (c : Card) (a : Asked) → is_quiet c.phase ≡ false → is_ticking a ≡ false → is_confirmation a ≡ false → Passed c a → Unmoved c (step_of c a).card
unfolding lost_step
asked-same c unread o t k p = same_kept c no_place
asked-same c (create aid quota) o t k p = absurd (open_row c o p.change)
asked-same c (on aid act) o t k p = act-same c aid act o p
asked-same c (confirm number) o t k p = absurd (false≢true (sym k))
asked-same c (status_of_all next life fallback) o t k p = same_kept c (goes_on_at c next life fallback)
asked-same c get_data o t k p = same_kept c no_place
asked-same c tick o t k p = absurd (false≢true (sym t))
asked-same c lost o t k p = rw (lost-open c o) (same_kept c no_place)

-- no command asks for a tick
request-ticks : (verdict : ℕ) (s : List ℕ) (r : Request) → is_ticking (request_asks verdict s r) ≡ false
request-ticks verdict s (request.Create aid quota) = refl
request-ticks verdict s (request.Enable aid) = refl
request-ticks verdict s (request.Disable aid) = refl
request-ticks verdict s (request.SetFallBack aid) = refl
request-ticks verdict s (request.Delete aid) = refl
request-ticks verdict s (request.MasterDelete aid) = refl
request-ticks verdict s (request.Confirm number) = refl
request-ticks verdict s (request.GetStatusOfAll next tags) = refl
request-ticks verdict s (request.GetStatusOfOne aid tags) = refl
request-ticks verdict s request.GetData = refl

field-ticks : (verdict : ℕ) (s : List ℕ) (f : Field) → is_ticking (field_asks verdict s f) ≡ false
field-ticks verdict s None = refl
field-ticks verdict s (Some r) = request-ticks verdict s r

policy-ticks : (speaker : List ℕ) (p : Policy) → is_ticking (policy_asks speaker p) ≡ false
policy-ticks speaker None = refl
policy-ticks speaker (Some p) = refl

only-tick : (c : Card) (call : Call) → is_tick call ≡ false → is_ticking (asked c call) ≡ false
only-tick c (Command verdict s room) e = field-ticks verdict s (field_of s c.capacity)
only-tick c (Keyed aid) e = refl
only-tick c (Stored aid n) e = refl
only-tick c (Finished aid policy mark) e = refl
only-tick c Tick e = absurd (false≢true (sym e))
only-tick c Lost e = refl
only-tick c (PolicyUpdate speaker s room) e = policy-ticks speaker (policy_of s)

-- a call is a tick, or it is none
pub by-tick : (P : Call → Type 0) → ((call : Call) → is_tick call ≡ false → P call) → P Tick → (call : Call) → P call
by-tick P f g (Command verdict s room) = f (Command verdict s room) refl
by-tick P f g (Keyed aid) = f (Keyed aid) refl
by-tick P f g (Stored aid n) = f (Stored aid n) refl
by-tick P f g (Finished aid policy mark) = f (Finished aid policy mark) refl
by-tick P f g Tick = g
by-tick P f g Lost = f Lost refl
by-tick P f g (PolicyUpdate speaker s room) = f (PolicyUpdate speaker s room) refl

not-asked : (a b : Bool) → (a && b) ≡ false → b ≡ true → a ≡ false
not-asked true true e h = e
not-asked true false e h = absurd (false≢true h)
not-asked false b e h = refl

pub frame : Frame
unfolding step_by
frame c call s o e =
    decide-card (Unmoved c) c (table_word c call) (step_of c (asked c call)) (response_of c (asked c call))
    (λ d. asked-same c (asked c call) o (only-tick c call (or_l (is_tick call) _ e)) (not-asked (is_confirmation (asked c call)) (taken c call) (or_r (is_tick call) _ e) d) (card-passed c call d))
    (same c)

-- a tick ticks
pub tick-step : (c : Card) → sound c ≡ true → (step c Tick).card ≡ tick_of c
unfolding step_by word_of accepted tick_step
tick-step c s = rw s

-- the confirmation of the outstanding number closes the change, and the enabled profile stays
pub record Closed (c d : Card) : Type 0 where
  pub quiet : d.phase ≡ Quiet
  pub enabled : (i : ℕ) → is_enabled (at d.places i) ≡ is_enabled (at c.places i)
  pub named : (i : ℕ) → is_enabled (at d.places i) ≡ true → (at d.places i).aid ≡ (at c.places i).aid
  pub fallback : d.fallback ≡ c.fallback
  pub last : d.last ≡ c.last

calm : (c : Card) → Closed c (with_phase c Quiet)
calm c = record { quiet = refl; enabled = λ i. refl; named = λ i e. refl; fallback = refl; last = refl }

-- a place rewritten that is not enabled then: those that are keep their AIDs
enabled-named : (x : Isdp) → is_enabled x ≡ false → (l : List Isdp) (q i : ℕ) → is_enabled (at (set l q x) i) ≡ true → (at (set l q x) i).aid ≡ (at l i).aid
enabled-named x n [] q i e = refl
enabled-named x n (p ∷ ps) zero zero e = absurd (false≢true (sym n ∙ e))
enabled-named x n (p ∷ ps) zero (suc i) e = refl
enabled-named x n (p ∷ ps) (suc q) zero e = refl
enabled-named x n (p ∷ ps) (suc q) (suc i) e = enabled-named x n ps q i e

confirm-closes : (c : Card) (p : Phase) → Phased p c → Closed c (confirm_in p c)
confirm-closes c Quiet h = calm c
confirm-closes c (Trial q l m) h =
    cond_both (dropped c q) _ _ (Closed c)
    (λ b. record { quiet = refl; enabled = set-unseen is_enabled vacant c.places q (rw h.1); named = enabled-named vacant refl c.places q; fallback = refl; last = refl })
    (λ b. calm c)
confirm-closes c (Back l m) h = calm c
confirm-closes c (Fallen l m) h = calm c

confirm-card : (c : Card) (a : Asked) → is_confirmation a ≡ true → (step_of c a).card ≡ confirm_of c
unfolding confirm_step
confirm-card c unread e = absurd (false≢true e)
confirm-card c (create aid quota) e = absurd (false≢true e)
confirm-card c (on aid act) e = absurd (false≢true e)
confirm-card c (confirm number) e = refl
confirm-card c (status_of_all next life fallback) e = absurd (false≢true e)
confirm-card c get_data e = absurd (false≢true e)
confirm-card c tick e = absurd (false≢true e)
confirm-card c lost e = absurd (false≢true e)

-- an accepted call takes its step
pub taken_step : (c : Card) (call : Call) → taken c call ≡ true → (step c call).card ≡ (step_of c (asked c call)).card
unfolding step_by accepted
taken_step c call e = rw e

pub confirm-does : (c : Card) (call : Call) → sound c ≡ true → is_confirmation (asked c call) ≡ true → taken c call ≡ true → Closed c (step c call).card
unfolding confirm_of
confirm-does c call s a e =
    rw (taken_step c call e, confirm-card c (asked c call) a) (confirm-closes c c.phase (parts c s).phased)

-- by the row "confirmation not of the outstanding number"
asked-outstanding : (c : Card) (number : ℕ) → Passed c (confirm number) → outstanding c.phase number ≡ true
asked-outstanding c number p = not-false _ p.target

pub only-outstanding : OnlyOutstanding
only-outstanding c call number a e = asked-outstanding c number (rw a at (card-passed c call e))
