-- The node's body is changed; if there is no node, the map stays.
use Rattle.std.proofs.Common.{sym}
use Rattle.number_map.proofs.NumberedLemmas.{changed_None}
use Rattle.disk_tree.specs.Entries.{without_entry}
use Rattle.disk_tree.specs.Nodes.{on_body, with_entries}
use Rattle.disk_tree.proofs.NodeLemmas.{body_changed}
use Rattle.disk_tree.proofs.edits.remove_entry.Goals as goal

pub returns-in-Some-clause-removed : goal.returns-in-Some-clause-removed
returns-in-Some-clause-removed c =
    body_changed c.args.nodes.now c.args.dir c.in-Some.node.now c.remove_entry.new.self (sym c.in-Some.ensures.value)
    (with_entries (without_entry c.args.name.now)) c.remove_entry.ensures.removed

pub returns-in-None-clause-removed : goal.returns-in-None-clause-removed
returns-in-None-clause-removed c =
    sym (changed_None c.args.nodes.now c.args.dir (on_body (with_entries (without_entry c.args.name.now))) (sym c.in-None.ensures.value))
