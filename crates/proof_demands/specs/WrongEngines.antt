-- Document 01, 'What the contracts have to settle' ("These engines have to be caught") and 'Wrong engines we expect to see': each is
-- the manager with one thing changed, and none meets the demands.
use Rattle.std.specs.Prelude.{ℕ, suc, ◌+◌, ◌≡◌, List, [], ◌∷◌, ◌++◌, Bool, true, false, not, cond, ◌&&◌, replicate, ltb, leb}
use Rattle.base_status.specs.StatusWords.{is_done}
use Rattle.base_status.specs.declared.Status.{Status}
use Rattle.base_status.specs.declared.Status.TheVariants.{PolicyForbids, Done}
use Rattle.card_isdp.specs.Sizes.{wait}
use Rattle.card_isdp.specs.Aids.{no_aid}
use Rattle.card_isdp.specs.Policy.{forbids_disabling}
use Rattle.card_isdp.specs.LifeCycle.{is_finished}
use Rattle.card_places.specs.Places.{at}
use Rattle.card_record.specs.Cards.{is_quiet, place_of, profile_of, enabled_place, with_phase, cleared, with_fallback}
use Rattle.card_record.specs.Sound.{sound}
use Rattle.card_record.specs.Clock.{next_number, outstanding, dropped}
use Rattle.card_record.specs.Steps.{step_to, confirm_step}
use Rattle.card_record.specs.Ticks.{ticks_to_come}
use Rattle.card_record.specs.Answers.{Outcome, refused, accepted}
use Rattle.card_record.specs.declared.Card.{Card}
use Rattle.card_record.specs.declared.Phase.{Phase}
use Rattle.card_record.specs.declared.Phase.TheVariants.{Quiet, Trial, Back, Fallen}
use Rattle.rule_steps.specs.Asked.{Act.enable, Act.set_fall_back, Asked, Asked.unread, Asked.create, Asked.on, Asked.confirm, Asked.status_of_all, Asked.get_data, Asked.tick, Asked.lost, same_act, on_target}
use Rattle.rule_run.specs.Calls.{Call, Call.Command, Call.Keyed, Call.Stored, Call.Finished, Call.Tick, Call.Lost, Call.PolicyUpdate, asked}
use Rattle.rule_run.specs.Step.{step}
use Rattle.rule_run.specs.Runs.{taken, is_tick}
use Rattle.rule_run.specs.Inputs.{Inputs, fresh_of}
use Rattle.rule_run.specs.Samples as example
use Rattle.proof_demands.specs.Engines.{Engine, answer_after, Answered, MeetsDemand2, MeetsDemand3, MeetsCount, Meets, plain}

abbrev pub Refuted : Engine → Type 0
Refuted e = Meets e → ⊥

-- an answer with another card, and with another figure of ticks
abbrev pub with_card : Outcome → Card → Outcome
with_card o c =
    record { status = o.status; card = c; response = o.response; notification = o.notification; ticks = o.ticks }

abbrev pub with_ticks : Outcome → ℕ → Outcome
with_ticks o n =
    record { status = o.status; card = o.card; response = o.response; notification = o.notification; ticks = n }

-- "one that refuses everything", by whatever words
abbrev pub refuses_all : (Card → Call → Status) → Engine
refuses_all word = plain (λ c call. refused c (word c call))

-- "one with a fixed answer", whatever it is
abbrev pub fixed_answer : Outcome → Engine
fixed_answer o = plain (λ c call. o)

-- "one that leaves every card as it was", whatever else it answers
abbrev pub leaves_every_card : (Card → Call → Outcome) → Engine
leaves_every_card says = plain (λ c call. with_card (says c call) c)

-- demand 2 along a list of calls
unfoldable pub Along : (e : Engine) → e.Memory → Card → List Call → Type 0
Along e m c [] = Unit {0}
Along e m c (call ∷ calls) =
    Answered (e.answer m c call) (step c call) × Along e (e.remember m c call) (e.answer m c call).card calls

abbrev pub AlongFrom : Engine → Inputs → List Call → Type 0
AlongFrom e x calls = Along e (e.start x) (e.fresh x).card calls

-- "by demand 2 on examples 1, 2 and 7", each by itself. F is told by its AID alone, so example 1 is held on two fresh cards (decision B39)
abbrev pub larger : Inputs
larger = record { eid = replicate 16 0x89; aid = example.aid 1; capacity = 2000; quota = 100; used = 10; volatile = 7 }

abbrev pub OnExample1 : Engine → Type 0
OnExample1 e = AlongFrom e example.inputs (example.get_status ∷ []) × AlongFrom e larger (example.get_status ∷ [])

abbrev pub OnExample2 : Engine → Type 0
OnExample2 e = AlongFrom e example.inputs (example.load 2 0 ++ example.set_fall_back 2 ∷ []) × AlongFrom e example.inputs (example.set_fall_back 2 ∷ [])

abbrev pub OnExample7 : Engine → Type 0
OnExample7 e = AlongFrom e example.inputs (example.load 2 0 ++ example.enable 2 ∷ example.ticks 9 ++ example.confirm 1 ∷ [])

-- whatever meets demand 2 meets it there
pub record OnExamples (e : Engine) : Type 0 where
  pub first : OnExample1 e
  pub second : OnExample2 e
  pub seventh : OnExample7 e

abbrev pub Exemplary : Type 1
Exemplary = (e : Engine) → MeetsDemand2 e → OnExamples e

pub record RefutedOnEach (e : Engine) : Type 0 where
  pub first : OnExample1 e → ⊥
  pub second : OnExample2 e → ⊥
  pub seventh : OnExample7 e → ⊥

abbrev pub RefusesAll : Type 0
RefusesAll = (word : Card → Call → Status) → ((c : Card) (call : Call) → is_done (word c call) ≡ false) → RefutedOnEach (refuses_all word)

abbrev pub FixedAnswer : Type 0
FixedAnswer = (o : Outcome) → RefutedOnEach (fixed_answer o)

-- example 1 changes no card: an engine that leaves every card can be right there, so that example alone refutes none (decision B39)
pub record LeavesEveryCard : Type 0 where
  pub first : OnExample1 (leaves_every_card step)
  pub second : (says : Card → Call → Outcome) → OnExample2 (leaves_every_card says) → ⊥
  pub seventh : (says : Card → Call → Outcome) → OnExample7 (leaves_every_card says) → ⊥

-- "one that works on the first command and then only answers 90 00": it remembers how many commands came
abbrev pub is_command : Call → Bool
is_command (Command verdict s room) = true
is_command (Keyed aid) = false
is_command (Stored aid n) = false
is_command (Finished aid policy mark) = false
is_command Tick = false
is_command Lost = false
is_command (PolicyUpdate speaker s room) = false

-- it works on the first so many, and answers every later one so
abbrev pub first_then : ℕ → (Card → Call → Outcome) → Engine
first_then n later =
    record {
      Memory = ℕ;
      fresh = fresh_of;
      start = λ x. 0;
      answer = λ m c call. cond (leb n m && is_command call) (later c call) (step c call);
      remember = λ m c call. cond (is_command call) (suc m) m;
    }

-- by demand 2, however many it works on and whatever it answers later, if only the word is 90 00 (decision B41)
abbrev pub FirstThenOnly9000 : Type 0
FirstThenOnly9000 =
    (n : ℕ) (later : Card → Call → Outcome) → ((c : Card) (call : Call) → (later c call).status ≡ Done) → MeetsDemand2 (first_then n later) → ⊥

-- 90 00 and nothing done
abbrev pub idle_answer : Card → Call → Outcome
idle_answer c call = accepted Done (step_to c c no_aid) []

-- by demand 3, from one command on: with three (a creation, an enable and its confirmation) or more it makes the first change and does not open
-- the second, with fewer not even the first (decision B41)
abbrev pub NotTheSecondChange : Type 0
NotTheSecondChange = (n : ℕ) → MeetsDemand3 (first_then (n + 1) idle_answer) → ⊥

-- "one that invents its ticks-left figure", from the card handed back
abbrev pub invents_ticks : (Card → ℕ) → Engine
invents_ticks figure = plain (λ c call. with_ticks (step c call) (figure (step c call).card))

-- no figure but the count is taken, at any card that is reached
abbrev pub OnlyTheCount : Type 0
OnlyTheCount =
    (figure : Card → ℕ) → MeetsCount (invents_ticks figure) → (x : Inputs) → is_done (fresh_of x).status ≡ true
    → (past : List Call) (call : Call)
    → figure (answer_after (invents_ticks figure) x past call).card ≡ ticks_to_come (answer_after (invents_ticks figure) x past call).card

-- thirty while a change is open
abbrev pub thirty_while_open : Card → ℕ
thirty_while_open c = cond (is_quiet c.phase) 0 30

-- "Roll-back refused because the new profile forbids disabling itself."
abbrev pub rolls_back : Phase → Bool
rolls_back Quiet = false
rolls_back (Trial previous left number) = not (ltb 1 left)
rolls_back (Back left number) = false
rolls_back (Fallen left number) = false

abbrev pub roll_back_asks_policy : Engine
roll_back_asks_policy =
    plain
    (λ c call.
    cond (is_tick call && (rolls_back c.phase && forbids_disabling (at c.places (enabled_place c)).policy))
    (refused c PolicyForbids) (step c call))

abbrev pub asks_enable : Asked → Bool
asks_enable a = on_target false (λ aid act. same_act act enable) a

-- "The previous profile deleted at the enable command, so nothing is left to return to": where its policy has it deleted once disabled
abbrev pub previous_deleted_at_enable : Engine
previous_deleted_at_enable =
    plain
    (λ c call.
    cond ((asks_enable (asked c call) && taken c call) && dropped c (enabled_place c))
    (with_card (step c call) (cleared (step c call).card (enabled_place c)))
    (step c call))

-- "A second enable during Trial that restarts the ten ticks."
abbrev pub restarted : Phase → Card → Card
restarted Quiet c = c
restarted (Trial previous left number) c = with_phase c (Trial previous wait number)
restarted (Back left number) c = c
restarted (Fallen left number) c = c

abbrev pub second_enable_restarts_wait : Engine
second_enable_restarts_wait =
    plain
    (λ c call.
    cond (asks_enable (asked c call) && not (is_quiet c.phase)) (accepted Done (step_to c (restarted c.phase c) no_aid) [])
    (step c call))

-- "A late confirmation of number 1 accepted as that of number 2."
abbrev pub is_late : Phase → Asked → Bool
is_late phase unread = false
is_late phase (create aid quota) = false
is_late phase (on aid act) = false
is_late phase (confirm number) = outstanding phase (next_number number)
is_late phase (status_of_all next life fallback) = false
is_late phase get_data = false
is_late phase tick = false
is_late phase lost = false

abbrev pub late_confirmation_taken : Engine
late_confirmation_taken = plain (λ c call. cond (is_late c.phase (asked c call)) (accepted Done (confirm_step c) []) (step c call))

-- request 2026-02, "Field staff moved the fall-back to a data-only profile": set fall-back ignores the mark
abbrev pub unmarked_taken : Card → Asked → Outcome → Outcome
unmarked_taken c a right =
    on_target right
    (λ aid act.
    cond (same_act act set_fall_back && (is_quiet c.phase && is_finished (profile_of c aid).life))
    (accepted Done (step_to c (with_fallback c (place_of c aid)) no_aid) []) right)
    a

abbrev pub ignores_mark : Engine
ignores_mark = plain (λ c call. unmarked_taken c (asked c call) (step c call))

-- by demand 2, on example 2 with its profile unmarked: it answers 90 00, and the card that it hands back is not sound
pub record IgnoringMark : Type 0 where
  pub refuted : AlongFrom ignores_mark example.inputs (example.load_with 2 0 0 ++ example.set_fall_back 2 ∷ []) → ⊥
  pub takes-it : (answer_after ignores_mark example.inputs (example.load_with 2 0 0) (example.set_fall_back 2)).status ≡ Done
  pub no-longer-sound : sound (answer_after ignores_mark example.inputs (example.load_with 2 0 0) (example.set_fall_back 2)).card ≡ false

-- "These engines have to be caught": none of them meets the demands
pub record Caught : Type 0 where
  pub refusing-all : (word : Card → Call → Status) → ((c : Card) (call : Call) → is_done (word c call) ≡ false) → Refuted (refuses_all word)
  pub fixed : (o : Outcome) → Refuted (fixed_answer o)
  pub leaving-every-card : (says : Card → Call → Outcome) → Refuted (leaves_every_card says)
  pub only-9000 : FirstThenOnly9000
  pub not-the-second-change : NotTheSecondChange
  pub inventing : Refuted (invents_ticks thirty_while_open)
  pub asking-policy : Refuted roll_back_asks_policy
  pub deleting-at-enable : Refuted previous_deleted_at_enable
  pub restarting : Refuted second_enable_restarts_wait
  pub taking-late : Refuted late_confirmation_taken
  pub ignoring-the-mark : Refuted ignores_mark
