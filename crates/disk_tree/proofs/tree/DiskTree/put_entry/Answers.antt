-- An entry and a name are no blocks.
use Rattle.std.proofs.Common.{refl, true, ◌∙◌}
use Rattle.disk_tree.specs.Entries.{with_entry}
use Rattle.disk_tree.specs.Nodes.{on_body, with_entries, named_as}
use Rattle.disk_tree.proofs.DiskLemmas.{same_total, entries_keep}
use Rattle.disk_tree.proofs.tree.DiskTree.put_entry.Goals as goal

pub invariant_of-self-2 : goal.invariant_of-self-2
invariant_of-self-2 c = (
  c.self.invariant.0
      ∙ same_total c.self.inside.nodes c.add_within.new.nodes c.args.dir (on_body (with_entries (with_entry c.args.name.now c.args.number))) c.in_ok-add_within.ensures.put
      (λ node. entries_keep (with_entry c.args.name.now c.args.number) node.body)
      ∙ same_total c.add_within.new.nodes c.set_name_flag.new.nodes c.args.number (named_as true) c.set_name_flag.ensures (λ node. refl),
  c.self.invariant.1,
)
