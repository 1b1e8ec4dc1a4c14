-- What is written, and the lines of the blocks that are left, are all lines.
use Rattle.std.proofs.Common.{◌≡◌, ◌++◌, map, drop}
use Rattle.image_lines.specs.ImageText.{ended, block_line}
use Rattle.tree_image.proofs.write.push_blocks.Given as goal

abbrev pub invariant-each : goal.invariant-each
invariant-each l = l.text.items ++ ended (map block_line (drop l.index l.blocks))
    ≡ l.initial.text.items ++ ended (map block_line l.blocks)
