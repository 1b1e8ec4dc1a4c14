-- What is written, and the lines of the entries that are left, are all lines.
use Rattle.std.proofs.Common.{◌≡◌, ◌++◌, map, drop}
use Rattle.image_lines.specs.ImageText.{ended, entry_line}
use Rattle.tree_image.proofs.write.push_entries.Given as goal

abbrev pub invariant-each : goal.invariant-each
invariant-each l = l.text.items ++ ended (map entry_line (map (λ e. e.now) (drop l.entry-index l.entries)))
    ≡ l.initial.text.items ++ ended (map entry_line (map (λ e. e.now) l.entries))
