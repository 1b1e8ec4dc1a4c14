-- The blocks of zeros that were added follow the blocks that were there.
use Rattle.std.proofs.Common.{◌≡◌, ◌-◌, ◌≤◌, ◌++◌, length, replicate}
use Rattle.disk_tree.specs.Blocks.{zero_block}
use Rattle.disk_tree.proofs.blocks.BlockList.grow.Given as goal

abbrev pub invariant-loop : goal.invariant-loop
invariant-loop l =
    record {
      size : l.before ≡ length l.fn.self;
      few : l.counter - l.before ≤ l.count - l.before;
      made : l.self-inside.items.items ≡ l.fn.self ++ replicate (l.counter - l.before) zero_block;
    }
