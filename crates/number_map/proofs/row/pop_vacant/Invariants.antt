-- Only slots without a value were dropped.
use Rattle.std.proofs.Common.{◌≡◌, vec_len}
use Rattle.number_map.specs.Rising.{pairs_of_slots, numbers}
use Rattle.number_map.proofs.RowLemmas.{IsSorted}
use Rattle.number_map.proofs.row.pop_vacant.Given as goal

abbrev pub invariant-loop-last : goal.invariant-loop-last
invariant-loop-last g l =
    (pairs_of_slots l.slots.items ≡ pairs_of_slots l.fn.slots.items)
    × (IsSorted (numbers l.fn.slots.items) → IsSorted (numbers l.slots.items))

abbrev pub decreases-loop-last : goal.decreases-loop-last
decreases-loop-last g l = vec_len l.slots
