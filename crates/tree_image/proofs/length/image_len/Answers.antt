use Rattle.std.proofs.Common.{arith}
use Rattle.tree_image.proofs.LengthLemmas.{node_longer}
use Rattle.tree_image.proofs.length.image_len.Goals as goal

pub each-preserved-then-node : goal.each-preserved-then-node
each-preserved-then-node c =
    let more = node_longer c.in-Some.number c.in-Some.node.now c.each.number-iterator c.next.new.self c.in-Some.ensures.steps c.if-node.true in
    omega (arith, more)
