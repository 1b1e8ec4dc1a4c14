-- The length so far, and that of the lines that are left, is the whole.
use Rattle.std.proofs.Common.{◌≡◌, ◌+◌, map, length}
use Rattle.image_lines.specs.ImageText.{ended, entry_line}
use Rattle.tree_image.proofs.length.entries_len.Given as goal

abbrev pub invariant-each : goal.invariant-each
invariant-each l = l.len + length (ended (map entry_line l.entry-iterator)) ≡ length (ended (map entry_line l.entries))
