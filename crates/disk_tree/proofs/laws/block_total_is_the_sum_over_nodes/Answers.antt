-- By the entries of both maps.
use Rattle.disk_tree.proofs.AgreeLemmas.{totals_agree}
use Rattle.disk_tree.proofs.laws.block_total_is_the_sum_over_nodes.Goals as goal

pub returns : goal.returns
returns g c stored count = totals_agree stored count
