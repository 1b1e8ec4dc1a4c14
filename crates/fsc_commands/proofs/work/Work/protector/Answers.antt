use Rattle.std.proofs.Common.{arith}
use Rattle.fsc_commands.proofs.WorkLemmas.{by_more_calls}
use Rattle.fsc_commands.proofs.work.Work.protector.Goals as goal

pub returns : goal.returns
returns g c =
    by_more_calls 4 c.store_protector.result (omega arith) (rw c.in_ok-made.ensures at c.store_protector.ensures)
