-- A write through the block is a change of the file's body, and leaves the count of blocks.
use Rattle.std.proofs.Common.{refl, sym, ap, ◌∙◌}
use Rattle.number_map.specs.Numbered.{get, changed}
use Rattle.disk_tree.specs.Blocks.{block_of, with_block}
use Rattle.disk_tree.specs.Nodes.{on_body, with_blocks}
use Rattle.disk_tree.specs.DiskTree.{blocks_in}
use Rattle.disk_tree.proofs.NodeLemmas.{body_changed}
use Rattle.disk_tree.proofs.DiskLemmas.{same_total, writing_keeps}
use Rattle.disk_tree.proofs.tree.DiskTree.block_mut.Goals as goal

pub invariant_of-self-lent : goal.invariant_of-self-lent
invariant_of-self-lent c w = (
  c.self.invariant.0
      ∙ same_total c.self.inside.nodes _ c.args.file (on_body (with_blocks (with_block c.args.index w)))
      (body_changed c.self.inside.nodes c.args.file c.in-Some.node.now (with_blocks (with_block c.args.index w) c.in-Some.node.now.body) (sym c.in-Some.ensures.value)
      (with_blocks (with_block c.args.index w)) refl)
      (λ node. writing_keeps c.args.index w node.body),
  c.self.invariant.1,
)

pub returns : goal.returns
returns c = (
  (
    refl,
    λ w. body_changed c.self.inside.nodes c.args.file c.in-Some.node.now (with_blocks (with_block c.args.index w) c.in-Some.node.now.body) (sym c.in-Some.ensures.value)
        (with_blocks (with_block c.args.index w)) refl
        ∙ ap (λ d. changed d c.args.file (on_body (with_blocks (with_block c.args.index w)))) c.self.view_is,
  ),
  record {
    writes_back = tt;
    value = c.block_mut.ensures.value ∙ ap (λ o. block_of (blocks_in o) c.args.index) (c.in-Some.ensures.value ∙ ap (λ d. get d c.args.file) c.self.view_is);
    whole = c.block_mut.ensures.whole;
  },
)
