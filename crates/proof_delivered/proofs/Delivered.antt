-- Each field by the theorem of its name. Assumes nothing.
use Rattle.proof_demands.proofs.Demand1.{demand-1}
use Rattle.proof_demands.proofs.CallLaws.{every_call, reports-taken}
use Rattle.proof_demands.proofs.Updates.{written}
use Rattle.read_command.proofs.ReadBack.{command-back}
use Rattle.read_command.proofs.Written.{command-written}
use Rattle.read_operator.proofs.UpdateGrammar.{update-back, update-written}
use Rattle.proof_demands.proofs.Framing.{framing-answered}
use Rattle.proof_demands.proofs.StatusTable.{status-table, update-table}
use Rattle.proof_demands.proofs.Notified.{notifying}
use Rattle.proof_demands.proofs.Demand2.{demand-2}
use Rattle.proof_demands.proofs.Openings.{demand-3, lost-network}
use Rattle.proof_demands.proofs.Closes.{thirty-ticks-close}
use Rattle.proof_demands.proofs.Frames.{frame, only-outstanding}
use Rattle.proof_demands.proofs.Confirmation.{confirmation-taken, confirmation-closes}
use Rattle.proof_demands.proofs.EndToEnd.{end-to-end-3, end-to-end-met}
use Rattle.proof_demands.proofs.WhileOpen.{allowed-while-open}
use Rattle.proof_demands.proofs.Ticks.{ticks-figure}
use Rattle.proof_demands.proofs.Create.{create-live}
use Rattle.proof_demands.proofs.Influence.{used-bytes-stay-private}
use Rattle.proof_demands.proofs.Others.{others-untouched, save-the-deletion}
use Rattle.proof_demands.proofs.Free.{free-is-counted}
use Rattle.proof_demands.proofs.Unique.{unique, promise-met}
use Rattle.proof_demands.proofs.Provisioning.{fallen-provisioned}
use Rattle.proof_demands.proofs.Room.{no-room-lost}
use Rattle.proof_demands.proofs.Summed.{answers_stay}
use Rattle.card_record.proofs.Clauses.{sound-clauses}
use Rattle.card_record.proofs.Numbers.{numbers-run}
use Rattle.card_record.proofs.Free.{free-kept}
use Rattle.proof_demands.proofs.Listing.{parts_join, same-field-joins, listing-ends}
use Rattle.read_frame.proofs.Classes.{class-byte}
use Rattle.month_contents.proofs.Laid.{end_to_end, nothing-else-wrong}
use Rattle.month_events.proofs.Numbers.{kinds-in-numbers}
use Rattle.month_events.proofs.Logged.{calls_back, calls-written, calls-met, one_table}
use Rattle.month_file.proofs.Grammar.{read_back, written_back, grammar-met}
use Rattle.month_file.proofs.Refusals.{refusal-table}
use Rattle.month_file.proofs.Opening.{one-order}
use Rattle.month_count.proofs.Sums.{ticks-add-up}
use Rattle.month_count.proofs.Events.{events-reported}
use Rattle.month_count.proofs.Figures.{what-a-line-says}
use Rattle.month_count.proofs.Files.{ticks-in-file}
use Rattle.month_report.proofs.ReadOff.{reports-read}
use Rattle.month_account.proofs.ByName.{refused-by-name}
use Rattle.month_totals.proofs.Written.{what-is-written}
use Rattle.month_totals.proofs.Logged.{from-logger-to-page, from-page-to-logger, logged-met}
use Rattle.month_totals.proofs.Printed.{printed-adds-up}
use Rattle.month_totals.proofs.WrongReports.{wrong-reports}
use Rattle.proof_demands.proofs.Examples.{marked-examples}
use Rattle.proof_demands.proofs.Engines.{manager-meets}
use Rattle.proof_demands.proofs.WrongEngines.{caught}
use Rattle.proof_demands.proofs.SilentEngines.{silence-caught}
use Rattle.proof_demands.proofs.HypothesesMet.{demand-1-met, demand-2-met, confirmation-met, ticks-met, create-met}
use Rattle.proof_demands.proofs.CallLawsMet.{every-call-met}
use Rattle.rule_steps.proofs.Laws.Met.{laws-met}
use Rattle.proof_demands.proofs.Witnesses.{witnesses}
use Rattle.proof_demands.proofs.RoomMet.{room-met}
use Rattle.proof_demands.proofs.ListingMet.{listing-met}
use Rattle.proof_delivered.specs.Delivered as statement

pub delivered : statement.Delivered
delivered =
    record {
      demand-1 = demand-1;
      every_call = every_call;
      reports-taken = reports-taken;
      written = written;
      command-back = command-back;
      command-written = command-written;
      update-back = update-back;
      update-written = update-written;
      framing-answered = framing-answered;
      status-table = status-table;
      update-table = update-table;
      notifying = notifying;
      sound-clauses = sound-clauses;
      numbers-run = numbers-run;
      demand-2 = demand-2;
      demand-3 = demand-3;
      thirty-ticks-close = thirty-ticks-close;
      lost-network = lost-network;
      frame = frame;
      only-outstanding = only-outstanding;
      confirmation-taken = confirmation-taken;
      confirmation-closes = confirmation-closes;
      end-to-end-3 = end-to-end-3;
      allowed-while-open = allowed-while-open;
      ticks-figure = ticks-figure;
      create-live = create-live;
      used-bytes-stay-private = used-bytes-stay-private;
      others-untouched = others-untouched;
      save-the-deletion = save-the-deletion;
      free-is-counted = free-is-counted;
      unique = unique;
      fallen-provisioned = fallen-provisioned;
      no-room-lost = no-room-lost;
      answers_stay = answers_stay;
      free-kept = free-kept;
      parts_join = parts_join;
      same-field-joins = same-field-joins;
      listing-ends = listing-ends;
      class-byte = class-byte;
      end_to_end = end_to_end;
      nothing-else-wrong = nothing-else-wrong;
      kinds-in-numbers = kinds-in-numbers;
      calls_back = calls_back;
      calls-written = calls-written;
      one_table = one_table;
      read_back = read_back;
      written_back = written_back;
      refusal-table = refusal-table;
      one-order = one-order;
      ticks-add-up = ticks-add-up;
      ticks-in-file = ticks-in-file;
      events-reported = events-reported;
      what-a-line-says = what-a-line-says;
      what-is-written = what-is-written;
      from-logger-to-page = from-logger-to-page;
      from-page-to-logger = from-page-to-logger;
      reports-read = reports-read;
      printed-adds-up = printed-adds-up;
      refused-by-name = refused-by-name;
      wrong-reports = wrong-reports;
      marked-examples = marked-examples;
      manager-meets = manager-meets;
      caught = caught;
      silence-caught = silence-caught;
    }

pub hypotheses-met : statement.HypothesesMet
hypotheses-met =
    record {
      demand-1-met = demand-1-met;
      demand-2-met = demand-2-met;
      every-call-met = every-call-met;
      laws-met = laws-met;
      witnesses = witnesses;
      confirmation-met = confirmation-met;
      end-to-end-met = end-to-end-met;
      ticks-met = ticks-met;
      create-met = create-met;
      room-met = room-met;
      listing-met = listing-met;
      promise-met = promise-met;
      calls-met = calls-met;
      grammar-met = grammar-met;
      logged-met = logged-met;
    }
