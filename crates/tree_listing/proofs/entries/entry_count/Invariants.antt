use Rattle.std.proofs.Common.{◌≡◌, ◌≤◌, length, ◌+◌}
use Rattle.text_words.specs.Lines.{pieces_of}
use Rattle.image_lines.specs.WordForms.{entries_at}
use Rattle.tree_listing.proofs.entries.entry_count.Given as goal

abbrev pub invariant-entries : goal.invariant-entries
invariant-entries l = record {
  counted : l.count + length (entries_at (pieces_of l.rest)) ≡ length (entries_at (pieces_of l.lines));
  few : l.count + length l.rest ≤ length l.lines;
}

abbrev pub decreases-entries : goal.decreases-entries
decreases-entries l = length l.rest
