use Rattle.std.proofs.Common.{◌≡◌, length}
use Rattle.image_lines.specs.Places.{numbers_at}
use Rattle.image_lines.proofs.ChildRounds.{SoFar}
use Rattle.image_lines.proofs.round_of_children.check_children.Given as goal

abbrev pub invariant-lines : goal.invariant-lines
invariant-lines l = record {
  so : SoFar (numbers_at l.places) l.text l.rest l.number l.led.items;
  sized : length l.led.items ≡ length l.places;
}

abbrev pub decreases-lines : goal.decreases-lines
decreases-lines l = length l.rest
