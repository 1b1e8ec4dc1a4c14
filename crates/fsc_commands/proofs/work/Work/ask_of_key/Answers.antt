use Rattle.std.proofs.Common.{arith}
use Rattle.fsc_commands.proofs.WorkLemmas.{by_err, stops, goes_on}
use Rattle.fsc_commands.proofs.work.Work.ask_of_key.Goals as goal

pub returns-in_err-loaded : goal.returns-in_err-loaded
returns-in_err-loaded g c =
    by_err c.from_residual.result c.from_residual.ensures.1 (stops 4 c.in_err-loaded.field-0.0 (omega arith) c.in_err-loaded.ensures)

pub returns : goal.returns
returns g c =
    goes_on g.met.P.MountPort.by_more 4 c.finish.result (omega arith) c.in_ok-loaded.ensures (rw (c.key_op.ensures, c.expected_key_reply.ensures) at c.finish.ensures)
