-- The node that is added has no blocks, nor has its entry; if no node is added, the tree stays.
use Rattle.std.proofs.Common.{◌≡◌, sym, ap, ◌∙◌}
use Rattle.number_map.specs.Numbered.{insert, get}
use Rattle.disk_tree.specs.DiskTree.{Disk, block_total}
use Rattle.disk_tree.specs.EntryChanges.{with_entry_and_name}
use Rattle.disk_tree.proofs.ResultLemmas.{on_ok_so, on_err_so, either_way}
use Rattle.disk_tree.proofs.DiskLemmas.{entered_total}
use Rattle.disk_tree.proofs.tree.DiskTree.add_node_and_entry.Goals as goal

pub invariant_of-self : goal.invariant_of-self
invariant_of-self c = (
  c.self.invariant.0
      ∙ either_way c.add_node_and_entry.result (block_total c.self.inside.nodes ≡ block_total c.add_node_and_entry.new.nodes)
      (on_ok_so c.add_node_and_entry.result (c.add_node_and_entry.new.nodes ≡ with_entry_and_name (insert c.self.inside.nodes c.args.number c.args.node) c.args.dir c.args.name.now c.args.number) _
      (entered_total c.self.inside.nodes c.add_node_and_entry.new.nodes c.args.dir c.args.number c.args.name.now c.args.node (ap (λ (d : Disk). get d c.args.number) c.self.view_is ∙ c.requires.absent) c.requires.no_blocks)
      c.add_node_and_entry.ensures.added)
      (on_err_so c.add_node_and_entry.result (c.add_node_and_entry.new.nodes ≡ c.self.inside.nodes) _ (λ kept. sym (ap block_total kept)) c.add_node_and_entry.ensures.kept),
  c.self.invariant.1,
)
