-- Every call keeps a sound card sound, so every run does. An accepted call passed all rows of its table: those before the card's own
-- rows say that what was read is legal, the card's own rows that the step keeps the card sound. A refusal hands the card back.
use mathlib.Core.Path.{◌≡◌, refl, sym}
use Prim.Native.Nat.{ℕ}
use native.Mathlib.Omega.{arith}
use mathlib.Core.List.{List, [], ◌∷◌}
use mathlib.Core.Bool.{true, false}
use lib.ListN.{length, drop, length-drop}
use lib.Seq.{length-take-le}
use borrow.Author.Tests.{le-leb, not-false}
use Rattle.std.proofs.lemmas.Bool.{and_from}
use Rattle.std.specs.Prelude.{Some, None}
use Rattle.base_status.specs.StatusWords.{is_done}
use Rattle.base_status.specs.Rows.{word_of}
use Rattle.base_status.specs.declared.Status.{Status}
use Rattle.base_status.proofs.Tables.{passed}
use Rattle.card_isdp.specs.Sizes.{least_aid, most_aid}
use Rattle.card_isdp.specs.Aids.{aid_ok}
use Rattle.card_isdp.proofs.Bools.{and_r}
use Rattle.card_record.specs.Sound.{sound}
use Rattle.card_record.specs.declared.Card.{Card}
use Rattle.card_record.proofs.Outcomes.{decide-card, checked}
use Rattle.base_bytes.specs.Bytes.{part_of}
use Rattle.base_bytes.specs.declared.Part.{Part}
use Rattle.read_frame.specs.Framing.{length_wrong, class_wrong, parameters_wrong, shape_wrong}
use Rattle.read_command.specs.Requests.{field_of}
use Rattle.read_fields.specs.Places.{Placed, RequestIn, FieldIn}
use Rattle.read_fields.specs.declared.request.Request.{Request}
use Rattle.read_fields.specs.declared.request.Request.TheVariants as request
use Rattle.read_fields.specs.Found.{Field}
use Rattle.read_command.proofs.Within.{field_in}
use Rattle.read_operator.specs.Field.{policy_of, Policy}
use Rattle.rule_steps.specs.Steps.{step_of, response_of}
use Rattle.rule_steps.proofs.Rows.{Passed, named}
use Rattle.rule_steps.proofs.Kept.{Legal, step_kept}
use Rattle.rule_run.specs.Calls.{Call, Call.Command, Call.Keyed, Call.Stored, Call.Finished, Call.Tick, Call.Lost, Call.PolicyUpdate, request_asks, field_asks, policy_asks, asked}
use Rattle.rule_run.specs.Table.{buffer_short, in_command, instruction_unknown, update_wrong, values_wrong, rows_after, table}
use Rattle.rule_run.specs.Step.{work, step, step_by, on_sound, run}
use Rattle.rule_run.specs.Statements.{OnSoundAgrees}

-- a part that lies in the command has its length
pub part-ok : (s : List ℕ) (aid : Part) → Placed s aid → aid_ok (part_of s aid) ≡ true
part-ok s aid p =
    let h = p.held in
    let l = p.least in
    let m = p.most in
    let d = length-drop aid.start s in
    let e : length (part_of s aid) ≡ aid.len = length-take-le aid.len (drop aid.start s) (omega arith) in
    and_from _ _ (le-leb least_aid (length (part_of s aid)) (omega arith)) (le-leb (length (part_of s aid)) most_aid (omega arith))

request-legal : (c : Card) (verdict : ℕ) (s : List ℕ) (r : Request) → RequestIn s c.capacity r → Legal c (request_asks verdict s r)
request-legal c verdict s (request.Create aid quota) h =
    record { named = part-ok s aid h.0; some = h.1.least; most = h.1.most }
request-legal c verdict s (request.Enable aid) h = tt
request-legal c verdict s (request.Disable aid) h = tt
request-legal c verdict s (request.SetFallBack aid) h = tt
request-legal c verdict s (request.Delete aid) h = tt
request-legal c verdict s (request.MasterDelete aid) h = tt
request-legal c verdict s (request.Confirm number) h = tt
request-legal c verdict s (request.GetStatusOfAll next tags) h = tt
request-legal c verdict s (request.GetStatusOfOne aid tags) h = tt
request-legal c verdict s request.GetData h = tt

field-legal : (c : Card) (verdict : ℕ) (s : List ℕ) (f : Field) → FieldIn s c.capacity f → Legal c (field_asks verdict s f)
field-legal c verdict s None h = tt
field-legal c verdict s (Some r) h = request-legal c verdict s r h

update-legal : (c : Card) (speaker : List ℕ) (p : Policy) → update_wrong speaker p ≡ false → Legal c (policy_asks speaker p)
update-legal c speaker None e = tt
update-legal c speaker (Some p) e = and_r (aid_ok speaker) _ (not-false _ e)

-- what a call asks is legal once its values are right
pub legal : (c : Card) (call : Call) → values_wrong c call ≡ false → Legal c (asked c call)
legal c (Command verdict s room) e = field-legal c verdict s (field_of s c.capacity) (field_in s c.capacity)
legal c (Keyed aid) e = tt
legal c (Stored aid n) e = tt
legal c (Finished aid policy mark) e = and_r (aid_ok aid) _ (not-false _ e)
legal c Tick e = tt
legal c Lost e = tt
legal c (PolicyUpdate speaker s room) e = update-legal c speaker (policy_of s) e

-- the rows of the table by name: where a call is accepted each of them was passed
pub record Accepted (c : Card) (call : Call) : Type 0 where
  pub whole : sound c ≡ true
  pub buffer : buffer_short call ≡ false
  pub length : in_command length_wrong call ≡ false
  pub class : in_command class_wrong call ≡ false
  pub instruction : instruction_unknown call ≡ false
  pub parameters : in_command parameters_wrong call ≡ false
  pub shape : in_command shape_wrong call ≡ false
  pub values : values_wrong c call ≡ false
  pub card : Passed c (asked c call)

pub rows-accepted : (c : Card) (call : Call) (success : Status) → is_done (word_of success (table c call)) ≡ true → Accepted c call
rows-accepted c call success e =
    let p = passed success (table c call) refl e in
    let r = p.1.1 in
    let v = r.1.1.1.1.1 in
    record { whole = not-false _ p.0; buffer = p.1.0; length = r.0; class = r.1.0; instruction = r.1.1.0; parameters = r.1.1.1.0; shape = r.1.1.1.1.0; values = v.0; card = named c (asked c call) v.1 }

-- the step of a call that the table accepts
pub took-sound : (c : Card) (call : Call) → is_done (word_of (work c call).success (table c call)) ≡ true → sound (step_of c (asked c call)).card ≡ true
took-sound c call e = let p = rows-accepted c call (work c call).success e in step_kept c (asked c call) (legal c call p.values) p.whole p.card

pub step-sound : (c : Card) (call : Call) → sound c ≡ true → sound (step c call).card ≡ true
unfolding step_by
step-sound c call s =
    decide-card (λ d. sound d ≡ true) c (word_of (work c call).success (table c call)) (step_of c (asked c call)) (response_of c (asked c call)) (took-sound c call) s

pub run_sound : (c : Card) (calls : List Call) → sound c ≡ true → sound (run c calls) ≡ true
unfolding run
run_sound c [] s = s
run_sound c (call ∷ calls) s = run_sound (step c call).card calls (step-sound c call s)

-- a call that does not ask soundness again answers the same on a sound card
call_kept : (c : Card) (call : Call) → sound c ≡ true → is_done (word_of (work c call).success (rows_after c call)) ≡ true → sound (step_of c (asked c call)).card ≡ true
unfolding word_of
call_kept c call s e = took-sound c call (rw s e)

pub on-sound-agrees : OnSoundAgrees
unfolding step_by on_sound
on-sound-agrees c call s = sym (checked c (work c call) s (call_kept c call s))
