use Rattle.std.proofs.lemmas.List.Elements.{recursion_from_All}
use Rattle.std.proofs.lemmas.Result.{on_ok_weaker}
use Rattle.image_lines.specs.Nodes.{node_in}
use Rattle.image_lines.specs.NodeRules.{IsNode}
use Rattle.tree_listing.specs.Listing.{listed}
use Rattle.tree_listing.proofs.Members.{holds_in, in_from_get}
use Rattle.tree_listing.proofs.ListLemmas.{true_way, written}
use Rattle.tree_listing.proofs.list.push_found.Goals as goal

pub push_line-requires : goal.push_line-requires
push_line-requires c = record {
  node = holds_in IsNode c.args.image.now (node_in c.node.result) (recursion_from_All IsNode c.args.image.now c.text-text.ensures.image.lines.each)
      (in_from_get c.args.image.now c.args.index (node_in c.node.result) c.node.ensures.node);
  way = true_way c.args.image.now c.args.index (node_in c.node.result) c.args.way c.requires.way c.node.ensures.node c.in_default.not-Nowhere;
}

pub returns : goal.returns
returns c =
    on_ok_weaker c.push_line.result
    (λ wrote. written c.args.image.now (listed c.args.reader.now c.args.image.now) c.args.index c.args.way c.args.text.now.items c.push_line.new.text.items (node_in c.node.result) c.node.ensures.node c.in_default.not-Nowhere wrote)
    c.push_line.ensures
