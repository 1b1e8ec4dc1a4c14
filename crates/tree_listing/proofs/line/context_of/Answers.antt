use Rattle.std.proofs.Common.{sym, ap, subst}
use Rattle.image_lines.specs.Image.{ImageNode, numbers_of}
use Rattle.image_lines.specs.Nodes.{node_in}
use Rattle.tree_listing.proofs.Members.{In, among_from_in, in_from_contains, in_map}
use Rattle.tree_listing.proofs.WalkLemmas.{only_node}
use Rattle.tree_listing.proofs.line.context_of.Goals as goal

pub returns-in-Some : goal.returns-in-Some
returns-in-Some c = λ node there number.
    sym (ap (λ (n : ImageNode). n.context)
    (only_node c.args.image.now c.text-text.ensures.image c.args.number c.in-Some.index (node_in c.node.result) node c.in-Some.ensures c.node.ensures.node there number))

pub returns-in-None : goal.returns-in-None
returns-in-None c = λ node there number.
    let own = in_map (λ (n : ImageNode). n.number) node c.args.image.now (in_from_contains c.args.image.now node there) in
    let found = among_from_in (numbers_of c.args.image.now) c.args.number (subst (λ n. In n (numbers_of c.args.image.now)) number own) in
    absurd (cc (c.in-None.ensures, found))
