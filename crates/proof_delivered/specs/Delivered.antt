-- All that is settled, in the order of README's table: each field is a statement about the definitions. That the code is equal to the definitions
-- is each function's own promise, and no field here.
use Rattle.card_record.specs.Clauses.{SoundClauses}
use Rattle.card_record.specs.Numbers.{NumbersRun}
use Rattle.card_record.specs.Free.{FreeKept}
use Rattle.read_frame.specs.Classes.{ClassByte}
use Rattle.read_command.specs.Grammar.{CommandBack, CommandWritten}
use Rattle.read_operator.specs.Grammar.{UpdateBack, UpdateWritten}
use Rattle.rule_steps.specs.Laws.Met.{LawsMet}
use Rattle.rule_run.specs.Step.{step}
use Rattle.proof_demands.specs.Demand1.{Demand1, Demand1Met}
use Rattle.proof_demands.specs.CallLaws.{EveryCall, EveryCallMet, ReportsTaken}
use Rattle.proof_demands.specs.Written.{Written}
use Rattle.proof_demands.specs.Framing.{FramingAnswered}
use Rattle.proof_demands.specs.StatusTable.{StatusTable}
use Rattle.proof_demands.specs.UpdateTable.{UpdateTable}
use Rattle.proof_demands.specs.Notified.{Notifying}
use Rattle.proof_demands.specs.Demand2.{Demand2, Demand2Met}
use Rattle.proof_demands.specs.Change.{Demand3, ThirtyTicksClose, LostNetwork, Frame, OnlyOutstanding}
use Rattle.proof_demands.specs.Confirmation.{ConfirmationTaken, ConfirmationCloses, ConfirmationMet}
use Rattle.proof_demands.specs.EndToEnd.{EndToEnd3, EndToEndMet}
use Rattle.proof_demands.specs.Provisioning.{FallenProvisioned}
use Rattle.proof_demands.specs.Room.{NoRoomLost, RoomMet}
use Rattle.proof_demands.specs.Summed.{AnswersStay}
use Rattle.proof_demands.specs.Listing.{PartsJoin, SameFieldJoins, ListingEnds, ListingMet}
use Rattle.proof_demands.specs.Ticks.{TicksFigure, TicksMet}
use Rattle.proof_demands.specs.Create.{CreateLive, CreateMet}
use Rattle.proof_demands.specs.Influence.{UsedBytesStayPrivate}
use Rattle.proof_demands.specs.Others.{OthersUntouched, SaveTheDeletion}
use Rattle.proof_demands.specs.Free.{FreeIsCounted}
use Rattle.proof_demands.specs.Unique.{Unique, PromiseMet}
use Rattle.proof_demands.specs.WhileOpen.{AllowedWhileOpen}
use Rattle.proof_demands.specs.Examples.{MarkedExamples}
use Rattle.proof_demands.specs.Engines.{manager, Meets}
use Rattle.proof_demands.specs.WrongEngines.{Caught}
use Rattle.proof_demands.specs.SilentEngines.{SilenceCaught}
use Rattle.proof_demands.specs.Witnesses.{Witnesses}
use Rattle.month_contents.specs.Statements.{EndToEnd, NothingElseWrong}
use Rattle.month_events.specs.Numbers.{KindsInNumbers}
use Rattle.month_events.specs.Logged.{CallsBack, CallsWritten, CallsMet, OneTable}
use Rattle.month_file.specs.Grammar.{ReadBack, WrittenBack, GrammarMet}
use Rattle.month_file.specs.Refusals.{RefusalTable, OneOrder}
use Rattle.month_count.specs.Statements.{TicksAddUp, TicksInFile, EventsReported, WhatALineSays}
use Rattle.month_report.specs.ReadOff.{ReportsRead}
use Rattle.month_account.specs.ByName.{RefusedByName}
use Rattle.month_totals.specs.Written.{WhatIsWritten}
use Rattle.month_totals.specs.Logged.{FromLoggerToPage, FromPageToLogger, LoggedMet}
use Rattle.month_totals.specs.Printed.{PrintedAddsUp}
use Rattle.month_totals.specs.WrongReports.{WrongReports}

pub record Delivered : Type 0 where
  -- demand 1: a refused request changes nothing
  pub demand-1 : Demand1
  -- demand 2: each call has document 01's answer, and nothing further changes
  pub every_call : EveryCall
  pub reports-taken : ReportsTaken
  -- a command is what its bytes write, and nothing else is taken
  pub written : Written
  pub command-back : CommandBack
  pub command-written : CommandWritten
  pub update-back : UpdateBack
  pub update-written : UpdateWritten
  -- the status table, row for row; its first seven rows of every byte string, in numbers
  pub framing-answered : FramingAnswered
  pub status-table : StatusTable
  pub update-table : UpdateTable
  -- whenever the enabled profile changes, a notification says so and names it
  pub notifying : Notifying
  -- what a sound card is, clause by clause in numbers, and how the numbers of notifications run
  pub sound-clauses : SoundClauses
  pub numbers-run : NumbersRun
  -- from fresh on, one profile is enabled and one is the fall-back
  pub demand-2 : Demand2
  -- demand 3: a change ends by the thirtieth tick, on the profile that the demand names
  pub demand-3 : Demand3
  pub thirty-ticks-close : ThirtyTicksClose
  pub lost-network : LostNetwork
  pub frame : Frame
  pub only-outstanding : OnlyOutstanding
  pub confirmation-taken : ConfirmationTaken
  pub confirmation-closes : ConfirmationCloses
  -- from the number in a notification and the bytes of its confirmation to the profile enabled
  pub end-to-end-3 : EndToEnd3
  pub allowed-while-open : AllowedWhileOpen
  -- the ticks figure, room for a creation, who may influence what, one answer to one promise
  pub ticks-figure : TicksFigure
  pub create-live : CreateLive
  pub used-bytes-stay-private : UsedBytesStayPrivate
  pub others-untouched : OthersUntouched
  pub save-the-deletion : SaveTheDeletion
  pub free-is-counted : FreeIsCounted
  pub unique : Unique
  -- requests 2026-02 to 2026-07; 2026-06 is a law of `every_call`
  pub fallen-provisioned : FallenProvisioned
  pub no-room-lost : NoRoomLost
  pub answers_stay : AnswersStay
  pub free-kept : FreeKept
  pub parts_join : PartsJoin step
  pub same-field-joins : SameFieldJoins step
  pub listing-ends : ListingEnds step
  pub class-byte : ClassByte
  -- the report, request 2026-01
  pub end_to_end : EndToEnd
  pub nothing-else-wrong : NothingElseWrong
  -- what an event's bytes mean: the kinds and lengths in numbers, and the call that each event is
  pub kinds-in-numbers : KindsInNumbers
  pub calls_back : CallsBack
  pub calls-written : CallsWritten
  pub one_table : OneTable
  pub read_back : ReadBack
  pub written_back : WrittenBack
  pub refusal-table : RefusalTable
  pub one-order : OneOrder
  pub ticks-add-up : TicksAddUp
  pub ticks-in-file : TicksInFile
  pub events-reported : EventsReported
  pub what-a-line-says : WhatALineSays
  pub what-is-written : WhatIsWritten
  pub from-logger-to-page : FromLoggerToPage
  pub from-page-to-logger : FromPageToLogger
  -- what is read off the printed text, and what each refusal is called
  pub reports-read : ReportsRead
  pub printed-adds-up : PrintedAddsUp
  pub refused-by-name : RefusedByName
  pub wrong-reports : WrongReports
  -- the twelve marked examples, and the engines that have to be caught
  pub marked-examples : MarkedExamples
  pub manager-meets : Meets manager
  pub caught : Caught
  pub silence-caught : SilenceCaught

-- that none of them holds for want of a case: cards, calls and files that meet their hypotheses
pub record HypothesesMet : Type 0 where
  pub demand-1-met : Demand1Met
  pub demand-2-met : Demand2Met
  pub every-call-met : EveryCallMet
  pub laws-met : LawsMet
  pub witnesses : Witnesses
  pub confirmation-met : ConfirmationMet
  pub end-to-end-met : EndToEndMet
  pub ticks-met : TicksMet
  pub create-met : CreateMet
  pub room-met : RoomMet
  pub listing-met : ListingMet
  pub promise-met : PromiseMet
  pub calls-met : CallsMet
  pub grammar-met : GrammarMet
  pub logged-met : LoggedMet
