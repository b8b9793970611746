-- Two sound cards that differ only in one profile's used bytes answer alike over any calls that do not store or finish it. One call by
-- the table and the step, which are blind to them; a run by induction, soundness being kept. Assumes nothing.
use mathlib.Core.Path.{◌≡◌, refl, ap, sym, subst, ◌∙◌}
use Prim.Native.Nat.{ℕ, zero, suc}
use mathlib.Core.List.{List, [], ◌∷◌}
use mathlib.Core.Bool.{Bool, true, false, not, cond, false≢true}
use lib.ListN.{set}
use borrow.Author.Tests.{not-true}
use Rattle.std.specs.Prelude.{Some, None}
use Rattle.base_status.specs.StatusWords.{is_done}
use Rattle.base_status.specs.Rows.{Row, row}
use Rattle.base_status.specs.declared.Status.{Status}
use Rattle.base_status.specs.declared.Status.TheVariants.{Unsound, BufferShort, LengthWrong, ClassWrong, InstructionWrong, ParametersWrong, DataWrong}
use Rattle.card_isdp.specs.LifeCycle.{with_used}
use Rattle.card_isdp.specs.Place.{is_for, clash}
use Rattle.card_isdp.specs.declared.Isdp.{Isdp}
use Rattle.card_isdp.proofs.Bools.{and_l, and_r}
use Rattle.card_places.specs.Places.{at, seek, any_of, distinct}
use Rattle.card_record.specs.Cards.{place_of, profile_of, over}
use Rattle.card_record.specs.Sound.{sound}
use Rattle.card_record.proofs.Sounds.{parts}
use Rattle.card_record.specs.Answers.{Outcome, accepted, refused, settle}
use Rattle.card_record.specs.declared.Card.{Card}
use Rattle.card_record.specs.declared.Step.{Step}
use Rattle.read_fields.specs.declared.request.Request.{Request}
use Rattle.read_fields.specs.declared.request.Request.TheVariants as request
use Rattle.read_fields.specs.Found.{Field}
use Rattle.read_frame.specs.Framing.{length_wrong, class_wrong, parameters_wrong, shape_wrong}
use Rattle.read_command.specs.Requests.{field_of}
use Rattle.rule_steps.specs.Asked.{Asked}
use Rattle.rule_steps.specs.Conditions.{card_rows}
use Rattle.rule_steps.specs.Steps.{success_of, step_of, response_of}
use Rattle.read_operator.specs.Field.{policy_of, Policy}
use Rattle.rule_run.specs.Calls.{Call, Call.Command, Call.Keyed, Call.Stored, Call.Finished, Call.Tick, Call.Lost, Call.PolicyUpdate, request_asks, field_asks, policy_asks, asked}
use Rattle.rule_run.specs.Table.{buffer_short, in_command, instruction_unknown, values_wrong, table}
use Rattle.rule_run.specs.Step.{step, step_by, run}
use Rattle.rule_run.proofs.Kept.{step-sound, run_sound}
use Rattle.rule_run.specs.Runs.{table_word}
use Rattle.proof_demands.specs.Said.{Said, said, Exchange, exchanges}
use Rattle.proof_demands.specs.Influence.{reuse, Differ, fills, none_fills, UsedBytesStayPrivate}
use Rattle.proof_demands.proofs.Uses.{use_at, reuse_at, use-same}
use Rattle.proof_demands.proofs.Tallies.{not-before}
use Rattle.proof_demands.proofs.Blind.{Near, Near.same, Near.apart, near-notice, near-ticks, spares, rows-near, card-near, response-near, success-near, step-notice}

-- no command stores or finishes a profile
request-spares : (a : List ℕ) (verdict : ℕ) (s : List ℕ) (r : Request) → spares a (request_asks verdict s r) ≡ true
request-spares a verdict s (request.Create aid quota) = refl
request-spares a verdict s (request.Enable aid) = refl
request-spares a verdict s (request.Disable aid) = refl
request-spares a verdict s (request.SetFallBack aid) = refl
request-spares a verdict s (request.Delete aid) = refl
request-spares a verdict s (request.MasterDelete aid) = refl
request-spares a verdict s (request.Confirm number) = refl
request-spares a verdict s (request.GetStatusOfAll next tags) = refl
request-spares a verdict s (request.GetStatusOfOne aid tags) = refl
request-spares a verdict s request.GetData = refl

field-spares : (a : List ℕ) (verdict : ℕ) (s : List ℕ) (f : Field) → spares a (field_asks verdict s f) ≡ true
field-spares a verdict s None = refl
field-spares a verdict s (Some r) = request-spares a verdict s r

policy-spares : (a speaker : List ℕ) (p : Policy) → spares a (policy_asks speaker p) ≡ true
policy-spares a speaker None = refl
policy-spares a speaker (Some p) = refl

call-spares : (a : List ℕ) (c : Card) (call : Call) → not (fills a call) ≡ true → spares a (asked c call) ≡ true
call-spares a c (Command verdict s room) n = field-spares a verdict s (field_of s c.capacity)
call-spares a c (Keyed aid) n = refl
call-spares a c (Stored aid m) n = n
call-spares a c (Finished aid policy mark) n = n
call-spares a c Tick n = refl
call-spares a c Lost n = refl
call-spares a c (PolicyUpdate speaker s room) n = policy-spares a speaker (policy_of s)

-- what is read of a call
asked-same : (i u : ℕ) (c : Card) (call : Call) → asked (reuse_at i u c) call ≡ asked c call
asked-same i u c (Command verdict s room) = refl
asked-same i u c (Keyed aid) = refl
asked-same i u c (Stored aid n) = refl
asked-same i u c (Finished aid policy mark) = refl
asked-same i u c Tick = refl
asked-same i u c Lost = refl
asked-same i u c (PolicyUpdate speaker s room) = refl

values_same : (i u : ℕ) (c : Card) (call : Call) → values_wrong (reuse_at i u c) call ≡ values_wrong c call
values_same i u c (Command verdict s room) = refl
values_same i u c (Keyed aid) = refl
values_same i u c (Stored aid n) = refl
values_same i u c (Finished aid policy mark) = refl
values_same i u c Tick = refl
values_same i u c Lost = refl
values_same i u c (PolicyUpdate speaker s room) = refl

-- the table, of its conditions on the card and its rows at the end
abbrev rows_with : Call → Bool → Bool → List Row → List Row
rows_with call unsound wrong rows =
    row unsound Unsound
    ∷ row (buffer_short call) BufferShort
    ∷ row (in_command length_wrong call) LengthWrong
    ∷ row (in_command class_wrong call) ClassWrong
    ∷ row (instruction_unknown call) InstructionWrong
    ∷ row (in_command parameters_wrong call) ParametersWrong
    ∷ row (in_command shape_wrong call) LengthWrong
    ∷ row wrong DataWrong
    ∷ rows

rows_alike : (call : Call) (x y v w : Bool) (l m : List Row) → x ≡ y → v ≡ w → l ≡ m → rows_with call x v l ≡ rows_with call y w m
rows_alike call x y v w l m e f g = rw (e, f, g)

-- one call, its answer and its card
abbrev Alike : List ℕ → ℕ → Outcome → Outcome → Type 0
Alike a i o p = (said p ≡ said o) × Near a i o.card p.card

alike-case : (a : List ℕ) (i u : ℕ) (c : Card) (w : Status) (s t : Step) (rsp : List ℕ) (b : Bool) → sound c ≡ true → sound (reuse_at i u c) ≡ true → is_for a (at c.places i) ≡ true → t.notification ≡ s.notification → Near a i s.card t.card → Alike a i (cond b (accepted w s rsp) (refused c w)) (cond b (accepted w t rsp) (refused (reuse_at i u c) w))
unfolding accepted refused
alike-case a i u c w s t rsp true e f b n r = (rw (n, near-ticks a i s.card t.card r), r)
alike-case a i u c w s t rsp false e f b n r = (rw (e, f, near-ticks a i c (reuse_at i u c) (apart u refl b)), apart u refl b)

outcome-alike : (d : Card) (w v : Status) (x y : Asked) (rsp : List ℕ) → w ≡ v → x ≡ y → response_of d y ≡ rsp → settle d w (step_of d x) (response_of d x) ≡ settle d v (step_of d y) rsp
outcome-alike d w v x y rsp e f g = rw (e, f, g)

step-alike : (a : List ℕ) (i u : ℕ) (c : Card) (call : Call) → sound c ≡ true → sound (reuse_at i u c) ≡ true → is_for a (at c.places i) ≡ true → not (fills a call) ≡ true → Alike a i (step c call) (step (reuse_at i u c) call)
unfolding step_by
step-alike a i u c call e f b n =
    let x = asked c call in
    let k = call-spares a c call n in
    let near = card-near a i u c b x k in
    let notice : (step_of (reuse_at i u c) x).notification ≡ (step_of c x).notification = step-notice (reuse_at i u c) x ∙ near-notice a i u c (step_of c x).card (step_of (reuse_at i u c) x).card near ∙ sym (step-notice c x) in
    let rows : table (reuse_at i u c) call ≡ table c call = rows_alike call (not (sound (reuse_at i u c))) (not (sound c)) (values_wrong (reuse_at i u c) call) (values_wrong c call) (card_rows (reuse_at i u c) (asked (reuse_at i u c) call)) (card_rows c x) (rw (e, f)) (values_same i u c call) (ap (card_rows (reuse_at i u c)) (asked-same i u c call) ∙ rows-near a i u c b x k) in
    let won : success_of (reuse_at i u c) (asked (reuse_at i u c) call) ≡ success_of c x = ap (success_of (reuse_at i u c)) (asked-same i u c call) ∙ success-near a i u c b x in
    let word : table_word (reuse_at i u c) call ≡ table_word c call = rw (won, rows) in
    subst (Alike a i (step c call))
    (sym (outcome-alike (reuse_at i u c) (table_word (reuse_at i u c) call) (table_word c call) (asked (reuse_at i u c) call) x (response_of c x) word (asked-same i u c call) (response-near a i u c b x)))
    (alike-case a i u c (table_word c call) (step_of c x) (step_of (reuse_at i u c) x) (response_of c x) (is_done (table_word c call)) e f b notice near)

-- a run
exchange : (call : Call) (x y : Said) (xs ys : List Exchange) → x ≡ y → xs ≡ ys → ◌≡◌ {A = List Exchange} (record { call = call; answer = x } ∷ xs) (record { call = call; answer = y } ∷ ys)
exchange call x y xs ys e f = rw (e, f)

near_step : (a : List ℕ) (i : ℕ) (c d : Card) (call : Call) → sound c ≡ true → sound d ≡ true → Near a i c d → not (fills a call) ≡ true → Alike a i (step c call) (step d call)
near_step a i c d call e f (same r) n = subst (λ x. Alike a i (step c call) (step x call)) (sym r) (refl, same refl)
near_step a i c d call e f (apart u r b) n =
    subst (λ x. Alike a i (step c call) (step x call)) (sym r) (step-alike a i u c call e (rw r at f) b n)

near-run : (a : List ℕ) (i : ℕ) (calls : List Call) (c d : Card) → sound c ≡ true → sound d ≡ true → Near a i c d → none_fills a calls ≡ true → (exchanges d calls ≡ exchanges c calls) × Near a i (run c calls) (run d calls)
unfolding exchanges run none_fills
near-run a i [] c d e f r n = (refl, r)
near-run a i (call ∷ calls) c d e f r n =
    let x = near_step a i c d call e f r (and_l (not (fills a call)) _ n) in
    let y = near-run a i calls (step c call).card (step d call).card (step-sound c call e) (step-sound d call f) x.1 (and_r (not (fills a call)) _ n) in
    (exchange call (said (step d call)) (said (step c call)) _ _ x.0 y.0, y.1)

-- of places with distinct AIDs the search finds the one that bears it
found-case : (a : List ℕ) (p : Isdp) (ps : List Isdp) (i : ℕ) → is_for a p ≡ false → seek (is_for a) ps ≡ i → seek (is_for a) (p ∷ ps) ≡ suc i
unfolding seek
found-case a p ps i e r = rw (e, r)

found : (a : List ℕ) (l : List Isdp) (i : ℕ) → distinct l ≡ true → is_for a (at l i) ≡ true → seek (is_for a) l ≡ i
unfolding seek distinct
found a [] i d b = absurd (false≢true (unfold is_for in b))
found a (p ∷ ps) zero d b = rw b
found a (p ∷ ps) (suc i) d b =
    let n = not-true (any_of (clash p) ps) (and_l (not (any_of (clash p) ps)) _ d) in
    found-case a p ps i (not-before a p ps i (is_for a p) refl b n) (found a ps i (and_r (not (any_of (clash p) ps)) _ d) b)

-- by place and by AID
near-differ : (a : List ℕ) (i : ℕ) (c d : Card) → sound c ≡ true → Near a i c d → Differ a c d
unfolding use_at
near-differ a i c d s (same e) = ((profile_of c a).used, e ∙ ap (over c) (sym (use-same c.places (place_of c a))))
near-differ a i c d s (apart u e b) = (u, e ∙ ap (λ (j : ℕ). over c (use_at c.places j u)) (sym (found a c.places i (parts c s).placed.apart b)))

-- where the search finds none nothing is set
missed-case : (t : Isdp → Bool) (x p : Isdp) (ps : List Isdp) (b : Bool) → t p ≡ b → t (at (p ∷ ps) (cond b 0 (suc (seek t ps)))) ≡ false → (t (at ps (seek t ps)) ≡ false → set ps (seek t ps) x ≡ ps) → set (p ∷ ps) (cond b 0 (suc (seek t ps))) x ≡ p ∷ ps
missed-case t x p ps true e n f = absurd (false≢true (sym n ∙ e))
missed-case t x p ps false e n f = ap (λ (l : List Isdp). p ∷ l) (f n)

missed : (t : Isdp → Bool) (x : Isdp) (l : List Isdp) → t (at l (seek t l)) ≡ false → set l (seek t l) x ≡ l
unfolding seek
missed t x [] n = refl
missed t x (p ∷ ps) n = missed-case t x p ps (t p) refl n (missed t x ps)

-- the profile is there, or the cards are equal
start : (a : List ℕ) (u : ℕ) (c : Card) (b : Bool) → is_for a (profile_of c a) ≡ b → Near a (place_of c a) c (reuse a u c)
unfolding use_at
start a u c true e = apart u refl e
start a u c false e = same (ap (over c) (missed (is_for a) (with_used (profile_of c a) u) c.places e))

pub used-bytes-stay-private : UsedBytesStayPrivate
used-bytes-stay-private c a u calls e f n =
    let x = near-run a (place_of c a) calls c (reuse a u c) e f (start a u c (is_for a (profile_of c a)) refl) n in
    (x.0, near-differ a (place_of c a) (run c calls) (run (reuse a u c) calls) (run_sound c calls e) x.1)
