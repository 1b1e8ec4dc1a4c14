-- The node's body is changed, or stays if there was no memory.
use Rattle.std.proofs.Common.{◌≡◌, sym}
use Rattle.disk_tree.specs.Nodes.{with_entries}
use Rattle.disk_tree.specs.Entries.{with_entry}
use Rattle.disk_tree.proofs.ResultLemmas.{on_ok_so, on_err_so}
use Rattle.disk_tree.proofs.NodeLemmas.{body_changed, body_kept}
use Rattle.disk_tree.proofs.edits.add_entry.Goals as goal

pub returns-clause-put : goal.returns-clause-put
returns-clause-put c =
    on_ok_so c.add_entry.result (c.add_entry.new.self ≡ with_entries (with_entry c.args.name.now c.args.number) c.in-Some.node.now.body) _
    (body_changed c.args.nodes.now c.args.dir c.in-Some.node.now c.add_entry.new.self (sym c.in-Some.ensures.value) (with_entries (with_entry c.args.name.now c.args.number))) c.add_entry.ensures.put

pub returns-clause-kept : goal.returns-clause-kept
returns-clause-kept c =
    on_err_so c.add_entry.result (c.add_entry.new.self ≡ c.in-Some.node.now.body) _
    (body_kept c.args.nodes.now c.args.dir c.in-Some.node.now c.add_entry.new.self (sym c.in-Some.ensures.value)) c.add_entry.ensures.kept
