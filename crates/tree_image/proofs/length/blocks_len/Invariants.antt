-- The length so far, and that of the lines that are left, is the whole.
use Rattle.std.proofs.Common.{◌≡◌, ◌+◌, map, drop, length}
use Rattle.image_lines.specs.ImageText.{ended, block_line}
use Rattle.tree_image.proofs.length.blocks_len.Given as goal

abbrev pub invariant-each : goal.invariant-each
invariant-each l = l.len + length (ended (map block_line (drop l.index l.blocks))) ≡ length (ended (map block_line l.blocks))
