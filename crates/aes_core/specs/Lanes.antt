-- Vectors of 16 lanes as the code has them. These definitions describe the code and not the standard.
use Rattle.std.specs.Prelude.{ℕ, ◌+◌, ◌*◌, List, map, slice_index}
use Rattle.std.specs.List.{range_with_len}
use Rattle.aes_core.specs.Steps.{cell, state_of}

-- in each column the byte some rows on
unfoldable pub row_on : ℕ → List ℕ → List ℕ
row_on n s = state_of (λ r c. cell s (r + n) c)

-- the 16 bytes of a round key
unfoldable pub round_key : List ℕ → ℕ → List ℕ
round_key keys n = map (λ i. slice_index keys (16 * n + i)) (range_with_len 0 16)
