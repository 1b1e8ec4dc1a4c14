use Rattle.std.proofs.Common.{arith}
use Rattle.fsc_commands.proofs.WorkLemmas.{by_err, stops, goes_on}
use Rattle.fsc_commands.proofs.work.Work.encrypt.Goals as goal

pub returns-in_err-loaded : goal.returns-in_err-loaded
returns-in_err-loaded g c =
    by_err c.from_residual-in_err-loaded.result c.from_residual-in_err-loaded.ensures.1 (stops 4 c.in_err-loaded.field-0.0 (omega arith) c.in_err-loaded.ensures)

pub returns : goal.returns
returns g c =
    goes_on g.met.P.MountPort.by_more 4 c.finish.result (omega arith) c.in_ok-loaded.ensures
    (rw (c.in_ok-meant.ensures.value, c.encode_policy.ensures, c.node_policy.ensures, c.derived_nonce.ensures) at c.finish.ensures)
