-- The node that is added has no blocks; if it is not added, the tree stays.
use Rattle.std.proofs.Common.{◌≡◌, sym, ap, ◌∙◌}
use Rattle.number_map.specs.Numbered.{insert, get}
use Rattle.disk_tree.specs.DiskTree.{block_total}
use Rattle.disk_tree.proofs.ResultLemmas.{on_ok_so, on_err_so, either_way}
use Rattle.disk_tree.proofs.DiskLemmas.{added_total}
use Rattle.disk_tree.proofs.tree.DiskTree.add_node.Goals as goal

pub invariant_of-self : goal.invariant_of-self
invariant_of-self c = (
  c.self.invariant.0
      ∙ sym (either_way c.set.result (block_total c.set.new.self ≡ block_total c.self.inside.nodes)
      (on_ok_so c.set.result (c.set.new.self ≡ insert c.self.inside.nodes c.args.number c.args.node) _
      (λ put. ap block_total put ∙ added_total c.self.inside.nodes c.args.number c.args.node (ap (λ d. get d c.args.number) c.self.view_is ∙ c.requires.absent) c.requires.no_blocks)
      c.set.ensures.put)
      (on_err_so c.set.result (c.set.new.self ≡ c.self.inside.nodes) _ (λ kept. ap block_total kept) c.set.ensures.kept)),
  c.self.invariant.1,
)
