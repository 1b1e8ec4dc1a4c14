use Rattle.std.proofs.Common.{arith}
use Rattle.fsc_commands.proofs.WorkLemmas.{by_err, stops, goes_on, allowed, refused}
use Rattle.fsc_commands.proofs.work.Work.add_through.Goals as goal

pub returns-in_err-opened : goal.returns-in_err-opened
returns-in_err-opened g c =
    by_err c.from_residual.result c.from_residual.ensures.1 (stops 3 c.in_err-opened.field-0.0 (omega arith) c.in_err-opened.ensures.opened)

pub returns-in-Ok : goal.returns-in-Ok
returns-in-Ok g c =
    goes_on g.met.P.MountPort.by_more 3 c.add_to-ended.result (omega arith) c.in_ok-opened.ensures.opened (allowed _ c.add_to-ended.result c.in-Ok.ensures c.add_to-ended.ensures)

-- if there is no free slot
pub returns-in-Err : goal.returns-in-Err
returns-in-Err g c =
    goes_on g.met.P.MountPort.by_more 3 _ (omega arith) c.in_ok-opened.ensures.opened (refused _ g.met.P.MountPort.by_none c.open_policy.new.caller c.in-Err.ensures)
