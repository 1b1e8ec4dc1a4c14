-- The node that is there is changed; if there is none, the map stays.
use Rattle.std.proofs.Common.{sym}
use Rattle.number_map.proofs.NumberedLemmas.{changed_Some, changed_None}
use Rattle.disk_tree.specs.Nodes.{named_as}
use Rattle.disk_tree.proofs.edits.set_name_flag.Goals as goal

pub returns-in-Some : goal.returns-in-Some
returns-in-Some c = sym (changed_Some c.args.nodes.now c.args.number (named_as c.args.named) c.in-Some.node.now (sym c.in-Some.ensures.value))

pub returns-in_default : goal.returns-in_default
returns-in_default c = sym (changed_None c.args.nodes.now c.args.number (named_as c.args.named) (sym c.in_default.ensures.value))
