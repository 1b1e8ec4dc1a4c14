-- Lower numbers are before the part that is left, and no lower one after it.
use Rattle.std.proofs.Common.{ℕ, ◌<◌, ◌≤◌, ◌-◌, length, get_or}
use Rattle.number_map.specs.Rising.{numbers}
use Rattle.number_map.proofs.row.lower_count.Given as goal

abbrev pub invariant-loop-low : goal.invariant-loop-low
invariant-loop-low g l = record {
  within : l.low ≤ l.high;
  high : l.high ≤ length l.slots;
  lower : (k : ℕ) → k < l.low → get_or (numbers l.slots) k 0 < l.number;
  others : (k : ℕ) → l.high ≤ k → k < length l.slots → l.number ≤ get_or (numbers l.slots) k 0;
}

abbrev pub decreases-loop-low : goal.decreases-loop-low
decreases-loop-low g l = l.high - l.low
