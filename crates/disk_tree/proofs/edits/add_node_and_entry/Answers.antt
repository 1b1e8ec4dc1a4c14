-- The node is not the directory, whose entries stay; a node that is added and removed again leaves the
-- map unchanged.
use Rattle.std.proofs.Common.{◌≤◌, length, true, sym, ap, subst, ◌∙◌}
use Rattle.mount_limits.specs.declared.TheConstants.{MAX_CHILDREN}
use Rattle.number_map.specs.Numbered.{changed, remove}
use Rattle.number_map.proofs.NumberedLemmas.{removed_again}
use Rattle.disk_tree.specs.DiskTree.{Disk}
use Rattle.disk_tree.specs.Entries.{Entries, with_entry}
use Rattle.disk_tree.specs.Nodes.{with_entries, on_body, named_as}
use Rattle.disk_tree.proofs.ChangeLemmas.{changed_first}
use Rattle.disk_tree.proofs.DiskLemmas.{dir_apart, dir_beside, children_beside}
use Rattle.disk_tree.proofs.edits.add_node_and_entry.Goals as goal

IsFull : Entries → Type 0
IsFull es = MAX_CHILDREN ≤ length es

pub add_within-requires : goal.add_within-requires
add_within-requires c = dir_beside c.args.nodes.now c.set.new.self c.args.dir c.args.number (named_as true c.args.node) c.requires.dir c.requires.absent c.in-Ok.ensures.put

pub returns-in-Ok-add_within-clause-added : goal.returns-in-Ok-add_within-clause-added
returns-in-Ok-add_within-clause-added c =
    c.in-Ok-add_within.ensures.put
    ∙ ap (λ (d : Disk). changed d c.args.dir (on_body (with_entries (with_entry c.args.name.now c.args.number)))) c.in-Ok.ensures.put
    ∙ changed_first c.args.nodes.now c.args.dir c.args.number (on_body (with_entries (with_entry c.args.name.now c.args.number))) (named_as true) c.args.node
    (dir_apart c.args.nodes.now c.args.dir c.args.number c.requires.dir c.requires.absent)

pub returns-in-Ok-add_within-clause-full : goal.returns-in-Ok-add_within-clause-full
unfolding IsFull
returns-in-Ok-add_within-clause-full c full = c.in-Ok-add_within.ensures.full (subst IsFull (sym (children_beside c.args.nodes.now c.set.new.self c.args.dir c.args.number (named_as true c.args.node) c.requires.dir c.requires.absent c.in-Ok.ensures.put)) full)

pub returns-in-Err-add_within-clause-kept : goal.returns-in-Err-add_within-clause-kept
returns-in-Err-add_within-clause-kept c =
    c.remove.ensures.removed
    ∙ ap (λ (d : Disk). remove d c.args.number) (c.in-Err-add_within.ensures.kept ∙ c.in-Ok.ensures.put)
    ∙ removed_again c.args.nodes.now c.args.number (named_as true c.args.node) c.requires.absent

pub returns-in-Err-add_within-clause-full : goal.returns-in-Err-add_within-clause-full
unfolding IsFull
returns-in-Err-add_within-clause-full c full = c.in-Err-add_within.ensures.full (subst IsFull (sym (children_beside c.args.nodes.now c.set.new.self c.args.dir c.args.number (named_as true c.args.node) c.requires.dir c.requires.absent c.in-Ok.ensures.put)) full)

pub returns-in-Err-add_within-clause-no_space : goal.returns-in-Err-add_within-clause-no_space
unfolding IsFull
returns-in-Err-add_within-clause-no_space c is = subst IsFull (children_beside c.args.nodes.now c.set.new.self c.args.dir c.args.number (named_as true c.args.node) c.requires.dir c.requires.absent c.in-Ok.ensures.put) (c.in-Err-add_within.ensures.no_space is)
