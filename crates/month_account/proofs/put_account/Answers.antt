-- `month_account::put_account`: what was counted is written, or by which name the file is refused.
use Rattle.month_account.proofs.Told.{refused-written, accepted-written}
use Rattle.month_account.proofs.put_account.Goals as goal

pub returns-in-Ok : goal.returns-in-Ok
returns-in-Ok c = accepted-written c.args.explain c.args.s.now c.count_month.ensures c.in-Ok.is c.write_report.ensures

pub returns-in-Err : goal.returns-in-Err
returns-in-Err c = refused-written c.args.explain c.args.s.now c.count_month.ensures c.in-Err.is c.write_refusal.ensures
