-- `open` meets its contract: each exit names the rows before its own. What a call told of the file is said once, for every exit after it: its
-- contents are right, its two sections, the inputs that make a fresh card or do not.
use mathlib.Core.Path.{◌≡◌, sym, ap, ◌∙◌}
use mathlib.Core.List.{List}
use Prim.Native.Nat.{ℕ}
use mathlib.Core.Bool.{Bool}
use native.Mathlib.Omega.{arith}
use Rattle.std.specs.Prelude.{Option, Some, Result, Ok, Err}
use Rattle.std.specs.Result.{result_ok}
use Rattle.std.proofs.lemmas.Result.{err_from_is_err_and}
use Rattle.base_bytes.specs.declared.Part.{Part}
use Rattle.base_status.specs.StatusWords.{is_done}
use Rattle.card_record.specs.declared.Answer.{Answer}
use Rattle.card_record.specs.Answers.{as_answer}
use Rattle.month_file.specs.declared.Refusal.{Refusal}
use Rattle.month_events.specs.Events.{checked_of}
use Rattle.month_file.specs.Inputs.{fresh_answer, fresh_bad}
use Rattle.month_file.proofs.Opening.{hands-on, contents-stop, fresh-missing, events-missing, bad-stop, events-stop, accept}
use Rattle.month_file.proofs.Opening.{bad-short, bad-refused, not-bad}
use Rattle.month_file.proofs.open.Goals as goal

-- a section that `?` went past
listed : {x y : Option Part} {q : Result Part Refusal} {p : Part} → x ≡ y → x ≡ result_ok q → q ≡ Ok p → y ≡ Some p
listed e o w = sym e ∙ o ∙ ap result_ok w

-- the inputs, as the bytes that the fresh call is asked of
inputs-as : {f g : List ℕ} {b : Bool} → f ≡ g → fresh_bad f ≡ b → fresh_bad g ≡ b
inputs-as e h = ap fresh_bad (sym e) ∙ h

-- whether the fresh call refuses them
answered : (f : List ℕ) {a : Answer} {d b : Bool} → a ≡ as_answer (fresh_answer f) → d ≡ is_done a.status → d ≡ b → is_done (fresh_answer f).status ≡ b
answered f e h w = sym (h ∙ ap (λ (o : Answer). is_done o.status) e) ∙ w

pub returns-then-contents_wrong : goal.returns-then-contents_wrong
returns-then-contents_wrong c = contents-stop _ (sym c.contents_wrong.ensures ∙ c.if-contents_wrong.true)

pub returns-in_err-inputs : goal.returns-in_err-inputs
returns-in_err-inputs c =
    let h = hands-on c.ok_or.ensures.value c.in_err-inputs.was c.from_residual.ensures.1 in
    h.1 ∙ fresh-missing _ (sym c.contents_wrong.ensures ∙ c.if-contents_wrong.false) (sym c.section_of.ensures ∙ h.0)

pub returns-in_err-events : goal.returns-in_err-events
returns-in_err-events c =
    let first = listed c.section_of.ensures c.ok_or.ensures.ok_part c.in_ok-inputs.was in
    let h = hands-on c.ok_or-2.ensures.value c.in_err-events.was c.from_residual-in_err-events.ensures.1 in
    h.1 ∙ events-missing _ (sym c.contents_wrong.ensures ∙ c.if-contents_wrong.false) _ first (sym c.section_of-2.ensures ∙ h.0)

pub returns-then-fresh-lt-INPUTS : goal.returns-then-fresh-lt-INPUTS
returns-then-fresh-lt-INPUTS c =
    let first = listed c.section_of.ensures c.ok_or.ensures.ok_part c.in_ok-inputs.was in
    let second = listed c.section_of-2.ensures c.ok_or-2.ensures.ok_part c.in_ok-events.was in
    let bad = inputs-as c.part_of-fresh.ensures (bad-short _ (omega arith)) in
    bad-stop _ (sym c.contents_wrong.ensures ∙ c.if-contents_wrong.false) _ first _ second bad

pub returns-then-not-is_done : goal.returns-then-not-is_done
returns-then-not-is_done c =
    let first = listed c.section_of.ensures c.ok_or.ensures.ok_part c.in_ok-inputs.was in
    let second = listed c.section_of-2.ensures c.ok_or-2.ensures.ok_part c.in_ok-events.was in
    let bad = inputs-as c.part_of-fresh.ensures (bad-refused _ (omega arith) (answered _ c.fresh_answer-answer.ensures c.is_done.ensures c.if-not-is_done.true)) in
    bad-stop _ (sym c.contents_wrong.ensures ∙ c.if-contents_wrong.false) _ first _ second bad

pub returns-in_err-check_events : goal.returns-in_err-check_events
returns-in_err-check_events c =
    let first = listed c.section_of.ensures c.ok_or.ensures.ok_part c.in_ok-inputs.was in
    let second = listed c.section_of-2.ensures c.ok_or-2.ensures.ok_part c.in_ok-events.was in
    let good = inputs-as c.part_of-fresh.ensures (not-bad _ (omega arith) (answered _ c.fresh_answer-answer.ensures c.is_done.ensures c.if-not-is_done.false)) in
    let wrong = ap checked_of (sym c.part_of.ensures) ∙ sym c.check_events.ensures ∙ c.in_err-check_events.was in
    let h = err_from_is_err_and c.from_residual-in_err-check_events.result c.from_residual-in_err-check_events.ensures.1 in
    h.1 ∙ ap Err h.2 ∙ events-stop _ (sym c.contents_wrong.ensures ∙ c.if-contents_wrong.false) _ first _ second good _ wrong

pub returns : goal.returns
returns c =
    let first = listed c.section_of.ensures c.ok_or.ensures.ok_part c.in_ok-inputs.was in
    let second = listed c.section_of-2.ensures c.ok_or-2.ensures.ok_part c.in_ok-events.was in
    let good = inputs-as c.part_of-fresh.ensures (not-bad _ (omega arith) (answered _ c.fresh_answer-answer.ensures c.is_done.ensures c.if-not-is_done.false)) in
    let right = ap checked_of (sym c.part_of.ensures) ∙ sym c.check_events.ensures ∙ c.in_ok-check_events.was in
    ap (λ (o : Answer). Ok (record { card = o.card; events = c.in_ok-events.events })) c.fresh_answer-answer.ensures
    ∙ ap (λ (f : List ℕ). Ok (record { card = (fresh_answer f).card; events = c.in_ok-events.events })) c.part_of-fresh.ensures
    ∙ accept _ (sym c.contents_wrong.ensures ∙ c.if-contents_wrong.false) _ first _ second good right
