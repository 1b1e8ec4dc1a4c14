-- Only slots without a value were skipped.
use Rattle.std.proofs.Common.{◌≡◌, length}
use Rattle.number_map.specs.Rising.{pairs_of_slots}
use Rattle.number_map.proofs.rising_iter.EntriesIterator.next.Given as goal

abbrev pub invariant-loop-slot : goal.invariant-loop-slot
invariant-loop-slot g l = pairs_of_slots l.self-inside.slots.now ≡ l.fn.self

abbrev pub decreases-loop-slot : goal.decreases-loop-slot
decreases-loop-slot g l = length l.self-inside.slots.now
