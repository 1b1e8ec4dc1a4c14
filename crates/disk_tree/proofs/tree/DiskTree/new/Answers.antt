-- The root has no blocks.
use Rattle.std.proofs.Common.{◌≡◌, None, true, sym, ap, ◌∙◌, arith}
use Rattle.number_map.specs.Numbered.{insert}
use Rattle.disk_tree.specs.DiskTree.{block_total, first_disk}
use Rattle.disk_tree.specs.declared.node.Body.TheVariants.{Dir}
use Rattle.disk_tree.specs.declared.node.StoredNode.{StoredNode}
use Rattle.disk_tree.proofs.DiskLemmas.{total_first}
use Rattle.disk_tree.proofs.tree.DiskTree.new.Goals as goal

pub invariant_of-result : goal.invariant_of-result
invariant_of-result c =
    let first : c.set.new.self ≡ first_disk
    = c.in_ok-set.ensures.put
    ∙ (λ i. let n : StoredNode = record { context = None; named = true; body = Dir (c.new.ensures i) } in insert (c.new-nodes.ensures i) 0 n) in
    (sym (ap block_total first ∙ total_first), omega arith)
