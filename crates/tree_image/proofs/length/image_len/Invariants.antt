-- The length so far, and that of the lines that are left, is the whole.
use Rattle.std.proofs.Common.{◌≡◌, ◌+◌, length}
use Rattle.std.specs.List.{flat_map}
use Rattle.image_lines.specs.ImageText.{ended, node_lines}
use Rattle.tree_image.specs.Images.{image_from, image_of}
use Rattle.tree_image.proofs.length.image_len.Given as goal

abbrev pub invariant-each : goal.invariant-each
invariant-each l = l.len + length (ended (flat_map node_lines (image_from l.number-iterator)))
    ≡ 12 + length (ended (flat_map node_lines (image_of l.disk)))
