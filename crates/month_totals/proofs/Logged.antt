-- From the logger's hand to the page: by the grammar of calls, the grammar of the file, and what is written of a file that is accepted.
-- Assumes nothing.
use Prim.Native.Nat.{ℕ}
use native.Mathlib.Omega.{arith}
use mathlib.Core.Path.{◌≡◌, refl, ap, ◌∙◌}
use mathlib.Core.List.{List}
use Rattle.card_record.specs.declared.Card.{Card}
use Rattle.rule_run.specs.Calls.{Call}
use Rattle.rule_run.specs.Inputs.{Inputs, fresh_of}
use Rattle.month_contents.specs.Contents.{fresh_kind}
use Rattle.month_events.specs.Events.{calls_of}
use Rattle.month_events.specs.Written.{encode_events}
use Rattle.month_events.proofs.Logged.{all-writable, all_read, all-logged, calls-met}
use Rattle.month_file.specs.Inputs.{inputs_of, fresh_answer}
use Rattle.month_file.specs.File.{Verdict.Accepted, body_of, file_events, file_calls, verdict_of}
use Rattle.month_file.specs.Grammar.{written}
use Rattle.month_file.proofs.Grammar.{read_back, written_back, grammar-met}
use Rattle.month_count.specs.Month.{file_card}
use Rattle.month_totals.specs.Written.{report_said}
use Rattle.month_totals.specs.Logged.{ReportedAs, FromLoggerToPage, FromPageToLogger, LoggedMet}
use Rattle.month_totals.proofs.Written.{what-is-written}

-- the card of a file is the one that the fresh call makes of its inputs
card-of : (s : List ℕ) (x : Inputs) → inputs_of (body_of s fresh_kind) ≡ x → file_card s ≡ (fresh_of x).card
unfolding fresh_answer
card-of s x e = ap (λ (y : Inputs). (fresh_of y).card) e

tells : (s : List ℕ) (x : Inputs) (calls : List Call) → verdict_of s ≡ Accepted → inputs_of (body_of s fresh_kind) ≡ x → file_calls s ≡ calls → ReportedAs s x calls
tells s x calls a e f =
    let card = card-of s x e in
    record {
      accepted = a;
      begins-on = card;
      runs = f;
      text = λ explain.
          what-is-written explain s a
          ∙ ap (λ (c : Card). report_said explain c (file_calls s)) card
          ∙ ap (λ (l : List Call). report_said explain (fresh_of x).card l) f;
    }

pub from-logger-to-page : FromLoggerToPage
from-logger-to-page listed_first laid_first x calls es inputs logged size =
    let r = read_back listed_first laid_first x es (record { inputs = inputs; events = all-writable calls es logged }) size in
    tells (written listed_first laid_first x es) x calls r.accepted r.inputs (ap calls_of r.events ∙ all_read calls es logged)

pub from-page-to-logger : FromPageToLogger
from-page-to-logger s w a =
    let b = written_back s w a in
    record {
      bytes = b;
      events = all-logged (file_events s) b.can.events;
      tells = tells s (inputs_of (body_of s fresh_kind)) (file_calls s) a refl refl;
    }

pub logged-met : LoggedMet
unfolding encode_events
logged-met = record { inputs = grammar-met.inputs; events = (calls-met.0, calls-met.1.1); size = omega arith }
