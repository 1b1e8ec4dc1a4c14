-- The blocks of the node that is removed are no longer counted.
use Rattle.std.proofs.Common.{◌≡◌, length, ap, arith}
use Rattle.disk_tree.specs.DiskTree.{block_total, blocks_in}
use Rattle.disk_tree.proofs.DiskLemmas.{removed_total}
use Rattle.disk_tree.proofs.tree.DiskTree.remove_node.Goals as goal

pub overflow_sub-self : goal.overflow_sub-self
overflow_sub-self c =
    let gone : c.count_of_blocks-gone.result ≡ length (blocks_in c.remove.result) = c.count_of_blocks-gone.ensures in
    let all = removed_total c.self.inside.nodes c.args.number in
    let counts = ap (λ o. length (blocks_in o)) c.remove.ensures.value in
    omega (arith, c.self.invariant.0, gone, all, counts)

pub invariant_of-self : goal.invariant_of-self
invariant_of-self c =
    let gone : c.count_of_blocks-gone.result ≡ length (blocks_in c.remove.result) = c.count_of_blocks-gone.ensures in
    let all = removed_total c.self.inside.nodes c.args.number in
    let counts = ap (λ o. length (blocks_in o)) c.remove.ensures.value in
    let left = ap block_total c.remove.ensures.removed in
    (omega (arith, c.self.invariant.0, gone, all, counts, left), omega (arith, c.self.invariant.1))
