use Rattle.std.proofs.Common.{◌≡◌, [], sym, ap, ◌∙◌, subst}
use Rattle.std.proofs.lemmas.List.Elements.{All-nil}
use Rattle.std.proofs.lemmas.Result.{on_ok_weaker}
use Rattle.text_words.specs.Lines.{pieces_of}
use Rattle.disk_tree.specs.Nodes.{entries_of}
use Rattle.image_lines.specs.Image.{ImageNode}
use Rattle.image_lines.specs.Nodes.{node_in}
use Rattle.image_lines.specs.WordForms.{body_at}
use Rattle.tree_listing.specs.Walk.{AreFound}
use Rattle.tree_listing.proofs.Members.{contains_from_in, in_from_get}
use Rattle.tree_listing.proofs.LeadLemmas.{number_at}
use Rattle.tree_listing.proofs.WalkLemmas.{not_missing, only_node, no_entries}
use Rattle.tree_listing.proofs.walk.follow.Goals as goal

pub unreachable-requires : goal.unreachable-requires
unreachable-requires c = not_missing c.args.image.now c.text-text.ensures.image c.args.walk.now.order.items c.args.number c.requires.walk.reached c.requires.found c.in_default.ensures

pub follow_entries-requires-clause-own : goal.follow_entries-requires-clause-own
follow_entries-requires-clause-own c = record {
  dir = node_in c.node-node.result;
  there = contains_from_in c.args.image.now (node_in c.node-node.result) (in_from_get c.args.image.now c.in-Some.index (node_in c.node-node.result) c.node-node.ensures.node);
  number = sym (number_at c.args.image.now c.in-Some.index (node_in c.node-node.result) c.node-node.ensures.node).1 ∙ c.in-Some.ensures.1;
  own = ap (λ kind. entries_of (body_at kind (pieces_of c.node-node.result.rest.now))) c.in-Dir.is;
}

pub returns-in-Dir-clause-followed : goal.returns-in-Dir-clause-followed
returns-in-Dir-clause-followed c =
    on_ok_weaker c.follow_entries.result
    (λ found dir there number.
    let same = only_node c.args.image.now c.text-text.ensures.image c.args.number c.in-Some.index (node_in c.node-node.result) dir c.in-Some.ensures c.node-node.ensures.node there number in
    let own = ap (λ (d : ImageNode). entries_of d.body) same ∙ ap (λ kind. entries_of (body_at kind (pieces_of c.node-node.result.rest.now))) c.in-Dir.is in
    subst (AreFound c.follow_entries.new.walk.order.items) (sym own) found)
    c.follow_entries.ensures.found

pub returns-in-File-clause-followed : goal.returns-in-File-clause-followed
returns-in-File-clause-followed c = λ dir there number.
    let same = only_node c.args.image.now c.text-text.ensures.image c.args.number c.in-Some.index (node_in c.node-node.result) dir c.in-Some.ensures c.node-node.ensures.node there number in
    let own : entries_of dir.body ≡ [] = ap (λ (d : ImageNode). entries_of d.body) same ∙ no_entries c.node-node.result.line.kind (pieces_of c.node-node.result.rest.now) c.in-File.is in
    subst (AreFound c.args.walk.now.order.items) (sym own) (All-nil _)

pub returns-in-File-2-clause-followed : goal.returns-in-File-2-clause-followed
returns-in-File-2-clause-followed c = λ dir there number.
    let same = only_node c.args.image.now c.text-text.ensures.image c.args.number c.in-Some.index (node_in c.node-node.result) dir c.in-Some.ensures c.node-node.ensures.node there number in
    let own : entries_of dir.body ≡ [] = ap (λ (d : ImageNode). entries_of d.body) same ∙ no_entries c.node-node.result.line.kind (pieces_of c.node-node.result.rest.now) c.in-File.is in
    subst (AreFound c.args.walk.now.order.items) (sym own) (All-nil _)
