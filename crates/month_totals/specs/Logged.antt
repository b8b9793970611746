-- From the logger's hand to the page: a file written of a fresh card's inputs and of calls is accepted, begins on the card that the fresh call
-- makes of the inputs, its calls are those calls, and its report is theirs. And every accepted file was so written.
use Rattle.std.specs.Prelude.{ℕ, ◌≤◌, ◌≡◌, List, [], ◌∷◌, Bool, true, length, replicate}
use Rattle.read_tlv.specs.Encoding.{Bytes}
use Rattle.rule_run.specs.Calls.{Call, Call.Keyed, Call.Tick}
use Rattle.rule_run.specs.Inputs.{Inputs, fresh_of}
use Rattle.month_contents.specs.Contents.{fresh_kind}
use Rattle.month_events.specs.Events.{Event}
use Rattle.month_events.specs.Logged.{event, AllLogged}
use Rattle.month_file.specs.Inputs.{inputs_of}
use Rattle.month_file.specs.File.{Verdict.Accepted, body_of, file_events, file_calls, verdict_of}
use Rattle.month_file.specs.Grammar.{InputsWritable, WrittenFrom, written, sample}
use Rattle.month_count.specs.Month.{file_card}
use Rattle.month_account.specs.Account.{account_text}
use Rattle.month_totals.specs.Written.{report_said}

-- what a file tells: from which card on, which calls, and in which words
pub record ReportedAs (s : List ℕ) (x : Inputs) (calls : List Call) : Type 0 where
  pub accepted : verdict_of s ≡ Accepted
  pub begins-on : file_card s ≡ (fresh_of x).card
  pub runs : file_calls s ≡ calls
  pub text : (explain : Bool) → account_text explain s ≡ report_said explain (fresh_of x).card calls

abbrev pub FromLoggerToPage : Type 0
FromLoggerToPage =
    (listed_first laid_first : Bool) (x : Inputs) (calls : List Call) (es : List Event)
    → InputsWritable x
    → AllLogged calls es
    → length (written listed_first laid_first x es) ≤ 65536
    → ReportedAs (written listed_first laid_first x es) x calls

-- the other way: the bytes of an accepted file are those that a logger writes of the inputs and the calls that are read in it
pub record WasLogged (s : List ℕ) : Type 0 where
  pub bytes : WrittenFrom s (inputs_of (body_of s fresh_kind)) (file_events s)
  pub events : AllLogged (file_calls s) (file_events s)
  pub tells : ReportedAs s (inputs_of (body_of s fresh_kind)) (file_calls s)

abbrev pub FromPageToLogger : Type 0
FromPageToLogger = (s : List ℕ) → Bytes s → verdict_of s ≡ Accepted → WasLogged s

-- the hypotheses can be met: a keyed call whose AID has 17 bytes, and a tick
abbrev pub few_calls : List Call
few_calls = Keyed (replicate 17 0xA0) ∷ Tick ∷ []

abbrev pub few_events : List Event
few_events = event 2 (replicate 17 0xA0) ∷ event 5 [] ∷ []

pub record LoggedMet : Type 0 where
  pub inputs : InputsWritable (sample 50 0 5)
  pub events : AllLogged few_calls few_events
  pub size : length (written true true (sample 50 0 5) few_events) ≤ 65536
