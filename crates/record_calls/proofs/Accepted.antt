-- A call's answer by its outcome. An accepted call passed every row, so its answer is that of its step, with the word of success; over a lent
-- buffer a refusal leaves it as it was, and a success writes its response from the first byte on. Assumes nothing.
use mathlib.Core.Path.{◌≡◌, ap, sym, ◌∙◌}
use Prim.Native.Nat.{ℕ, ◌≤◌}
use native.Mathlib.Omega.{arith}
use mathlib.Core.List.{List}
use lib.ListN.{length}
use Rattle.base_bytes.specs.Put.{Wrote}
use Rattle.base_bytes.proofs.PutLaws.{after_none, put-none}
use Rattle.base_status.specs.Rows.{word_of}
use Rattle.base_status.specs.declared.Status.{Status}
use Rattle.base_status.specs.declared.Status.TheVariants.{Done}
use Rattle.card_isdp.specs.Aids.{no_aid}
use Rattle.card_isdp.specs.declared.Aid.{Aid}
use Rattle.card_record.specs.Steps.{step_since, step_to}
use Rattle.card_record.specs.Ticks.{ticks_by_phase}
use Rattle.card_record.specs.Answers.{Work, as_answer, refused_with, accepted_with, answer_with, silent_with, outcome_on_sound}
use Rattle.card_record.proofs.Noticed.{unissued}
use Rattle.card_record.specs.declared.Card.{Card}
use Rattle.card_record.specs.declared.Step.{Step}
use Rattle.card_record.specs.declared.Answer.{Answer}
use Rattle.rule_responses.specs.Responses.{most_response}
use Rattle.record_calls.specs.Into.{AnsweredInto}

-- what a step is answered with, the word of success being Done
abbrev answered : ℕ → Step → Answer
answered n s = answer_with (ticks_by_phase s.card) Done s n

taken : (c : Card) (w : Work) → word_of w.success w.rows ≡ Done → answered (length w.response) w.step ≡ as_answer (outcome_on_sound c w)
taken c w p = rw p

-- over a lent buffer
pub kept : {old : List ℕ} {ticks : ℕ} {c : Card} {word : Status} {r : Answer} → r ≡ as_answer (refused_with ticks c word) → AnsweredInto old (refused_with ticks c word) r old
kept {old} {ticks} {c} {word} h = record { answer = h ∙ ap (silent_with ticks word c) (sym (after_none (length old) 0)); content = sym (put-none old 0); most = omega arith }

pub written : {old response new : List ℕ} {ticks n : ℕ} {word : Status} (s : Step) {r : Answer} → r ≡ answer_with ticks word s n → Wrote old 0 response n new → length response ≤ most_response
    → AnsweredInto old (accepted_with ticks word s response) r new
written {old} {response} {new} {ticks} {n} {word} s h x m = record { answer = h ∙ ap (answer_with ticks word s) x.place; content = x.content; most = m }

-- a step that may issue a number, and one that issues none: its code answers without it, as there is no notification
pub accepts : (c : Card) (w : Work) {d : Card} {gone : Aid} {s : Step} {r : Answer} → word_of w.success w.rows ≡ Done → step_to c d no_aid ≡ w.step
    → gone ≡ no_aid → s ≡ step_since c.last d gone → r ≡ answered (length w.response) s → r ≡ as_answer (outcome_on_sound c w)
accepts c w {d} p e g f h = h ∙ ap (answered (length w.response)) (f ∙ ap (step_since c.last d) g ∙ e) ∙ taken c w p

silent-step : (c : Card) {d e : Card} {word : Status} {n : ℕ} {r : Answer} → d ≡ e → e.last ≡ c.last → r ≡ silent_with (ticks_by_phase d) word d n → r ≡ answer_with (ticks_by_phase e) word (step_to c e no_aid) n
silent-step c {d} {e} made l h = rw (unissued c.last e l, ← made) h

pub silent-accepts : (c : Card) (w : Work) {d e : Card} {r : Answer} → word_of w.success w.rows ≡ Done → d ≡ e → step_to c e no_aid ≡ w.step → e.last ≡ c.last
    → r ≡ silent_with (ticks_by_phase d) Done d (length w.response) → r ≡ as_answer (outcome_on_sound c w)
silent-accepts c w p made e l h = silent-step c made l h ∙ ap (answered (length w.response)) e ∙ taken c w p

pub silent-written : (c : Card) {d e : Card} {word : Status} {n : ℕ} {r : Answer} {old response new : List ℕ} → d ≡ e → e.last ≡ c.last → r ≡ silent_with (ticks_by_phase d) word d n
    → Wrote old 0 response n new → length response ≤ most_response → AnsweredInto old (accepted_with (ticks_by_phase e) word (step_to c e no_aid) response) r new
silent-written c {d} {e} made l h x m = written (step_to c e no_aid) (silent-step c made l h) x m

pub silent-into : (c : Card) (w : Work) {d e : Card} {r : Answer} {n : ℕ} {old new : List ℕ} → word_of w.success w.rows ≡ Done → d ≡ e → step_to c e no_aid ≡ w.step → e.last ≡ c.last
    → r ≡ silent_with (ticks_by_phase d) Done d n → Wrote old 0 w.response n new → length w.response ≤ most_response → AnsweredInto old (outcome_on_sound c w) r new
silent-into c w p made q l h x m = rw (p, ← q) (silent-written c made l h x m)
