use Rattle.std.proofs.Common.{arith}
use Rattle.fsc_commands.proofs.WorkLemmas.{by_more_calls}
use Rattle.fsc_commands.proofs.work.Work.protector_link.Goals as goal

pub returns : goal.returns
returns g c =
    by_more_calls 4 c.store_record.result (omega arith) (rw c.in_ok-text.ensures.text at c.store_record.ensures)
