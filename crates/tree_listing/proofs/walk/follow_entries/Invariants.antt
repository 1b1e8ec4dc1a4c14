use Rattle.std.proofs.Common.{◌≡◌, ◌++◌, true, length}
use Rattle.text_words.specs.Lines.{pieces_of}
use Rattle.disk_tree.specs.Entries.{Entries}
use Rattle.image_lines.specs.ImageText.{image_text}
use Rattle.image_lines.specs.Nodes.{IsRestOf}
use Rattle.image_lines.specs.WordForms.{entries_at}
use Rattle.tree_listing.specs.Walk.{AreFound, GoesOn, IsWalk, is_among}
use Rattle.tree_listing.proofs.walk.follow_entries.Given as goal

abbrev pub invariant-entries : goal.invariant-entries
invariant-entries l = record {
  walk : IsWalk l.image l.walk;
  goes_on : GoesOn l.fn.walk l.walk;
  found : is_among l.walk.order.items l.number ≡ true;
  end : IsRestOf (image_text l.image) l.rest;
  left : (passed : Entries) × (passed ++ entries_at (pieces_of l.rest) ≡ entries_at (pieces_of l.lines)) × AreFound l.walk.order.items passed;
}

abbrev pub decreases-entries : goal.decreases-entries
decreases-entries l = length l.rest
