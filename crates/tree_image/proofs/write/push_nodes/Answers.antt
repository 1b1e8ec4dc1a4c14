use Rattle.tree_image.proofs.TextLemmas.{node-step}
use Rattle.tree_image.proofs.write.push_nodes.Goals as goal

pub each-preserved-in-Continue-1 : goal.each-preserved-in-Continue-1
each-preserved-in-Continue-1 c =
    node-step c.each.text.items c.push_node.new.text.items _ c.in-Some.number c.in-Some.node.now c.each.number-iterator c.next.new.self
    c.in-Some.ensures.steps c.if-node.true c.in_ok-push_node.ensures c.each.invariant
