-- The compression function F (RFC 7693, 3.2).
use Rattle.std.specs.Prelude.{ℕ, ◌+◌, ◌/◌, ◌%◌, ◌^◌, Bool, List, []}
use Rattle.std.specs.Prelude.{◌∷◌, ◌++◌, bit_xor, slice_index, map, if◌then◌else◌}
use Rattle.std.specs.Int.{w64, bit_not}
use Rattle.std.specs.List.{range_with_len}
use Rattle.blake2_core.specs.Words.{block_words}
use Rattle.blake2_core.specs.Constants.{initial_vector}
use Rattle.blake2_core.specs.Mixing.{rounds}

-- the work vector at the start: the state, and IV with the count of message bytes and, at the last
-- block, a mark in it (3.2)
abbrev pub work_vector : List ℕ → ℕ → Bool → List ℕ
work_vector state count last =
    state ++ (slice_index initial_vector 0 ∷ slice_index initial_vector 1
    ∷ slice_index initial_vector 2 ∷ slice_index initial_vector 3
    ∷ bit_xor (slice_index initial_vector 4) (count % 2 ^ 64)
    ∷ bit_xor (slice_index initial_vector 5) (count / 2 ^ 64 % 2 ^ 64)
    ∷ (if last then bit_not w64 (slice_index initial_vector 6) else slice_index initial_vector 6)
    ∷ slice_index initial_vector 7 ∷ [])

-- the state with both halves of the work vector xored into it (3.2)
abbrev pub fold_halves : List ℕ → List ℕ → List ℕ
fold_halves state v =
    map (λ i. bit_xor (bit_xor (slice_index state i) (slice_index v i)) (slice_index v (i + 8)))
    (range_with_len 0 8)

-- F: the state after a block of 128 bytes (3.2)
unfoldable pub compressed : List ℕ → List ℕ → ℕ → Bool → List ℕ
compressed state block count last =
    fold_halves state (rounds (block_words block) (work_vector state count last) 12)
