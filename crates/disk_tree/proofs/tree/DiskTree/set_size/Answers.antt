-- A size is no block.
use Rattle.std.proofs.Common.{◌∙◌}
use Rattle.disk_tree.specs.Nodes.{on_body, with_size}
use Rattle.disk_tree.proofs.DiskLemmas.{same_total, size_keeps}
use Rattle.disk_tree.proofs.tree.DiskTree.set_size.Goals as goal

pub invariant_of-self : goal.invariant_of-self
invariant_of-self c = (
  c.self.invariant.0 ∙ same_total c.self.inside.nodes c.set_size.new.nodes c.args.file (on_body (with_size c.args.size)) c.set_size.ensures (λ node. size_keeps c.args.size node.body),
  c.self.invariant.1,
)
