-- The node's body is changed, or stays if there is no space or no memory.
use Rattle.std.proofs.Common.{sym}
use Rattle.number_map.proofs.NumberedLemmas.{insert_same}
use Rattle.disk_tree.specs.Nodes.{with_entries}
use Rattle.disk_tree.specs.Entries.{with_entry}
use Rattle.disk_tree.proofs.NodeLemmas.{body_changed, body_kept}
use Rattle.disk_tree.proofs.edits.add_within.Goals as goal

pub returns-then-entry_count-ge-MAX_CHILDREN-clause-kept :
    goal.returns-then-entry_count-ge-MAX_CHILDREN-clause-kept
returns-then-entry_count-ge-MAX_CHILDREN-clause-kept c = insert_same c.args.nodes.now c.args.dir c.in-Some.node.now (sym c.in-Some.ensures.value)

pub returns-in-Ok-clause-put : goal.returns-in-Ok-clause-put
returns-in-Ok-clause-put c = body_changed c.args.nodes.now c.args.dir c.in-Some.node.now c.add_entry.new.self (sym c.in-Some.ensures.value) (with_entries (with_entry c.args.name.now c.args.number)) c.in-Ok.ensures.put

pub returns-in-Err-clause-kept : goal.returns-in-Err-clause-kept
returns-in-Err-clause-kept c = body_kept c.args.nodes.now c.args.dir c.in-Some.node.now c.add_entry.new.self (sym c.in-Some.ensures.value) c.in-Err.ensures.kept
