-- What is written, and the lines of the nodes that are left, are all lines.
use Rattle.std.proofs.Common.{◌≡◌, ◌++◌}
use Rattle.std.specs.List.{flat_map}
use Rattle.image_lines.specs.ImageText.{ended, node_lines}
use Rattle.tree_image.specs.Images.{image_from, image_of}
use Rattle.tree_image.proofs.write.push_nodes.Given as goal

abbrev pub invariant-each : goal.invariant-each
invariant-each l = l.text.items ++ ended (flat_map node_lines (image_from l.number-iterator))
    ≡ l.initial.text.items ++ ended (flat_map node_lines (image_of l.disk))
