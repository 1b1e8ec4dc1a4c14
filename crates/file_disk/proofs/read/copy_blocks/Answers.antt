-- One block more is copied.
use Rattle.std.proofs.Common.{◌++◌, length, sym, ap, ◌∙◌, arith, length-append}
use Rattle.disk_tree.specs.DiskTree.{file_blocks}
use Rattle.file_disk.proofs.ReadLemmas.{joined_none, joined_more}
use Rattle.file_disk.proofs.read.copy_blocks.Goals as goal

pub each-init : goal.each-init
each-init c = record {
  copied = c.new-text.ensures.items ∙ sym (joined_none (file_blocks c.args.disk.now c.args.file) c.args.from);
  size = ap length c.new-text.ensures.items;
}

pub each-preserved : goal.each-preserved
each-preserved c = record {
  copied =
      c.in_ok-extend_from_slice.ensures.items ∙ (λ i. c.each.invariant.copied i ++ c.block.ensures.value i)
      ∙ sym (joined_more (file_blocks c.args.disk.now c.args.file) c.args.from c.each.i);
  size =
      omega (
        arith,
        ap length c.in_ok-extend_from_slice.ensures.items,
        length-append c.each.text.items c.block.result.now,
        c.block.ensures.whole,
        c.each.invariant.size,
      );
}
