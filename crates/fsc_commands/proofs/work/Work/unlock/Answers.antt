use Rattle.std.proofs.Common.{arith}
use Rattle.fsc_commands.proofs.WorkLemmas.{by_err, stops, goes_on}
use Rattle.fsc_commands.proofs.work.Work.unlock.Goals as goal

pub returns-in_err-opened : goal.returns-in_err-opened
returns-in_err-opened g c =
    by_err c.from_residual.result c.from_residual.ensures.1 (stops 4 c.in_err-opened.field-0.0 (omega arith) c.in_err-opened.ensures)

pub returns : goal.returns
returns g c =
    goes_on g.met.P.MountPort.by_more 4 c.unlock_through-ended.result (omega arith) c.in_ok-opened.ensures c.unlock_through-ended.ensures
