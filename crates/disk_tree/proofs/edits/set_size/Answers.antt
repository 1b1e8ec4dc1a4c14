-- The node that is there is changed; if there is none, the map stays.
use Rattle.std.proofs.Common.{sym}
use Rattle.number_map.proofs.NumberedLemmas.{changed_None}
use Rattle.disk_tree.specs.Nodes.{on_body, with_size}
use Rattle.disk_tree.proofs.NodeLemmas.{body_changed}
use Rattle.disk_tree.proofs.edits.set_size.Goals as goal

pub returns-in-Some : goal.returns-in-Some
returns-in-Some c =
    body_changed c.args.nodes.now c.args.number c.in-Some.node.now c.set_size.new.self (sym c.in-Some.ensures.value) (with_size c.args.size) c.set_size.ensures

pub returns-in_default : goal.returns-in_default
returns-in_default c = sym (changed_None c.args.nodes.now c.args.number (on_body (with_size c.args.size)) (sym c.in_default.ensures.value))
