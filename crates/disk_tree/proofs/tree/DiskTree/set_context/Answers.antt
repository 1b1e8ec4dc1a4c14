-- A context is no block.
use Rattle.std.proofs.Common.{refl, ◌∙◌}
use Rattle.disk_tree.specs.Nodes.{with_context}
use Rattle.disk_tree.proofs.DiskLemmas.{same_total}
use Rattle.disk_tree.proofs.tree.DiskTree.set_context.Goals as goal

pub invariant_of-self : goal.invariant_of-self
invariant_of-self c = (
  c.self.invariant.0 ∙ same_total c.self.inside.nodes c.set_context.new.nodes c.args.number (with_context c.args.context) c.set_context.ensures (λ node. refl),
  c.self.invariant.1,
)
