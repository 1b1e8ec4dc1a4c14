use Rattle.std.proofs.Common.{arith}
use Rattle.fsc_commands.proofs.WorkLemmas.{by_err, stops, goes_on, allowed, refused}
use Rattle.fsc_commands.proofs.work.Work.policy_drop.Goals as goal

pub returns-in_err-loaded : goal.returns-in_err-loaded
returns-in_err-loaded g c =
    by_err c.from_residual.result c.from_residual.ensures.1 (stops 4 c.in_err-loaded.field-0.0 (omega arith) c.in_err-loaded.ensures)

pub returns-in_err-changed : goal.returns-in_err-changed
returns-in_err-changed g c =
    by_err c.from_residual-in_err-changed.result c.from_residual-in_err-changed.ensures.1
    (goes_on g.met.P.MountPort.by_more 4 _ (omega arith) c.in_ok-loaded.ensures (refused _ g.met.P.MountPort.by_none c.load_policy.new.caller c.in_err-changed.ensures))

pub returns : goal.returns
returns g c =
    goes_on g.met.P.MountPort.by_more 4 c.store_policy.result (omega arith) c.in_ok-loaded.ensures (allowed _ c.store_policy.result c.in_ok-changed.ensures c.store_policy.ensures)
