use Rattle.std.proofs.Common.{arith}
use Rattle.fsc_commands.proofs.WorkLemmas.{by_err, stops, goes_on, stops_now}
use Rattle.fsc_commands.proofs.work.Work.protector_change.Goals as goal

pub returns-in_err-opened : goal.returns-in_err-opened
returns-in_err-opened g c =
    by_err c.from_residual.result c.from_residual.ensures.1 (stops 4 c.in_err-opened.field-0.0 (omega arith) c.in_err-opened.ensures)

pub returns-in_err-rewrapped : goal.returns-in_err-rewrapped
returns-in_err-rewrapped g c =
    by_err c.from_residual-in_err-rewrapped.result c.from_residual-in_err-rewrapped.ensures.1
    (goes_on g.met.P.MountPort.by_more 4 _ (omega arith) c.in_ok-opened.ensures (stops_now g.met.P.MountPort.by_none c.open_protector.new.caller _))

pub returns : goal.returns
returns g c =
    goes_on g.met.P.MountPort.by_more 4 c.store_protector.result (omega arith) c.in_ok-opened.ensures (rw c.in_ok-rewrapped.ensures.value at c.store_protector.ensures)
