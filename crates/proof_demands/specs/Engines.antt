-- An engine that answers the calls, and what it is to meet: demands 2 and 3 and the count of ticks, at every card that it reaches
-- from an accepted fresh. An engine may keep a memory of its own, so what it answers is said after any list of calls.
use Rattle.std.specs.Prelude.{ℕ, ◌≡◌, List, [], ◌∷◌, ◌++◌, true, false}
use Rattle.base_status.specs.StatusWords.{is_done}
use Rattle.card_record.specs.Cards.{is_quiet, on_fallback}
use Rattle.card_record.specs.Ticks.{StepsTo}
use Rattle.card_record.specs.Answers.{Outcome}
use Rattle.card_record.specs.declared.Card.{Card}
use Rattle.rule_run.specs.Calls.{Call, Call.Lost}
use Rattle.rule_run.specs.Step.{step}
use Rattle.rule_run.specs.Inputs.{Inputs, fresh_of}
use Rattle.rule_run.specs.Runs.{enabled_bytes, fallback_bytes}
use Rattle.proof_demands.specs.Change.{Opens, last_tick, Change, LostChange}

-- it answers a fresh and every call on the card handed in, and remembers what it likes
pub record Engine : Type 1 where
  pub Memory : Type 0
  pub fresh : Inputs → Outcome
  pub start : Inputs → Memory
  pub answer : Memory → Card → Call → Outcome
  pub remember : Memory → Card → Call → Memory

-- each call is made on the card that the answer before it handed back
unfoldable pub reached : (e : Engine) → e.Memory → Card → List Call → Card
reached e m c [] = c
reached e m c (call ∷ calls) = reached e (e.remember m c call) (e.answer m c call).card calls

unfoldable pub remembered : (e : Engine) → e.Memory → Card → List Call → e.Memory
remembered e m c [] = m
remembered e m c (call ∷ calls) = remembered e (e.remember m c call) (e.answer m c call).card calls

-- the card after a fresh and a list of calls, and the answer to one call more
abbrev pub card_after : Engine → Inputs → List Call → Card
card_after e x past = reached e (e.start x) (e.fresh x).card past

abbrev pub answer_after : Engine → Inputs → List Call → Call → Outcome
answer_after e x past call = e.answer (remembered e (e.start x) (e.fresh x).card past) (card_after e x past) call

-- "Each command and event has the status word, response bytes, notification and new profile table that .. document 01 give, and nothing
-- further changes": the new card is the whole record (decision 53)
pub record Answered (o right : Outcome) : Type 0 where
  pub status : o.status ≡ right.status
  pub response : o.response ≡ right.response
  pub notification : o.notification ≡ right.notification
  pub card : o.card ≡ right.card

abbrev pub MeetsDemand2 : Engine → Type 0
MeetsDemand2 e =
    (x : Inputs) → is_done (fresh_of x).status ≡ true → (past : List Call) (call : Call)
    → Answered (answer_after e x past call) (step (card_after e x past) call)

-- of the first change and of every later one
abbrev pub MeetsDemand3 : Engine → Type 0
MeetsDemand3 e =
    (x : Inputs) → is_done (fresh_of x).status ≡ true → (past : List Call) (call : Call) (wanted : List ℕ)
    → Opens (card_after e x past) call wanted
    → Change wanted (enabled_bytes (card_after e x past)) (fallback_bytes (card_after e x past)) (last_tick (card_after e x past)) (λ calls. card_after e x (past ++ call ∷ calls))

abbrev pub MeetsLost : Engine → Type 0
MeetsLost e =
    (x : Inputs) → is_done (fresh_of x).status ≡ true → (past : List Call)
    → is_quiet (card_after e x past).phase ≡ true → on_fallback (card_after e x past) ≡ false
    → LostChange (fallback_bytes (card_after e x past)) (λ calls. card_after e x (past ++ Lost ∷ calls))

-- "it equals the count of the tick rule's steps to Quiet from the card handed back"
abbrev pub MeetsCount : Engine → Type 0
MeetsCount e =
    (x : Inputs) → is_done (fresh_of x).status ≡ true → (past : List Call) (call : Call)
    → StepsTo (answer_after e x past call).card (answer_after e x past call).ticks

pub record Meets (e : Engine) : Type 0 where
  pub fresh : (x : Inputs) → e.fresh x ≡ fresh_of x
  pub demand2 : MeetsDemand2 e
  pub demand3 : MeetsDemand3 e
  pub lost : MeetsLost e
  pub count : MeetsCount e

-- an engine that remembers nothing
abbrev pub plain : (Card → Call → Outcome) → Engine
plain answer =
    record {
      Memory = Unit {0};
      fresh = fresh_of;
      start = λ x. tt;
      answer = λ m c call. answer c call;
      remember = λ m c call. tt;
    }

-- the card that it reaches from this one by these calls
abbrev pub reached_by : (Card → Call → Outcome) → Card → List Call → Card
reached_by answer c calls = reached (plain answer) tt c calls

-- the manager of the definitions
abbrev pub manager : Engine
manager = plain step
