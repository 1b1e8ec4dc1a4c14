-- States cell by cell: the list of the cells of a state is the state, and the steps make blocks of
-- blocks.
use Rattle.std.proofs.Common.{◌≡◌, ℕ, ◌+◌, ◌*◌, ◌/◌, ◌%◌, ◌<◌, List, length, get_or, map, refl, ap, sym, arith, inl, inr}
use Rattle.std.proofs.lemmas.List.{get_or_past}
use Rattle.std.proofs.lemmas.List.FromFn.{fill_by_all, get_or-map-range_with_len, length-map-range_with_len}
use Rattle.std.proofs.lemmas.Bool.{cases_lt}
use Rattle.std.specs.List.{range_with_len}
use Rattle.aes_core.specs.Laws.{IsBlock}
use Rattle.aes_core.specs.Steps.{cell, state_of}

same_place : (k : ℕ) → k < 16 → k ≡ k % 4 % 4 + 4 * (k / 4 % 4)
same_place k low = omega arith

-- the cells of a state, one by one, are the state
pub state_of-cell : (s : List ℕ) → length s ≡ 16 → state_of (cell s) ≡ s
state_of-cell s size =
    sym (fill_by_all (λ i. cell s (i % 4) (i / 4)) s 16 0 size (λ k low. ap (λ i. get_or s i 0) (same_place k low)))

-- the value of a function at each place is a byte, if the function returns bytes
pub bytes_from : (f : ℕ → ℕ) (n : ℕ) → ((k : ℕ) → f k < 256) → (i : ℕ) → get_or (map f (range_with_len 0 n)) i 0 < 256
bytes_from f n small i = elim (cases_lt i n) [
  | inl low ↦ rw (get_or-map-range_with_len f 0 n i i 0 low (omega arith)) (small i)
  | inr past ↦ rw (get_or_past (map f (range_with_len 0 n)) i 0 (rw (length-map-range_with_len f 0 n) past)) (omega arith)
]

-- a state of bytes is a block
pub state_of-IsBlock : (f : ℕ → ℕ → ℕ) → ((r c : ℕ) → f r c < 256) → IsBlock (state_of f)
state_of-IsBlock f small = record {
  size = refl;
  bytes = bytes_from (λ k. f (k % 4) (k / 4)) 16 (λ k. small (k % 4) (k / 4));
}
