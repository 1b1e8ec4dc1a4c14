use Rattle.std.proofs.Common.{arith}
use Rattle.fsc_commands.proofs.WorkLemmas.{by_err, stops, goes_on}
use Rattle.fsc_commands.proofs.work.Work.unlock_through.Goals as goal

pub returns-in_err-opened : goal.returns-in_err-opened
returns-in_err-opened g c =
    by_err c.from_residual.result c.from_residual.ensures.1 (stops 2 c.in_err-opened.field-0.0 (omega arith) c.in_err-opened.ensures.opened)

pub returns : goal.returns
returns g c =
    goes_on g.met.P.MountPort.by_more 2 c.add_key-ended.result (omega arith) c.in_ok-opened.ensures.opened c.add_key-ended.ensures
