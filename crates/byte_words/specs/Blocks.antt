-- Blocks of one size in a list: block j holds the elements from size * j on.
use Rattle.std.specs.Prelude.{ℕ, zero, suc, ◌*◌, List, [], ◌++◌, length, map, take, drop}
use Rattle.std.specs.Int.{div_ceil}
use Rattle.std.specs.List.{range_with_len}

-- the j-th block, shorter if the list ends in it
unfoldable pub block_at : {A : Type 0} → ℕ → List A → ℕ → List A
block_at size xs j = take size (drop (size * j) xs)

-- the list divided into blocks, of which the last may be shorter; an empty list has none
unfoldable pub blocks_of : {A : Type 0} → ℕ → List A → List (List A)
blocks_of size xs = map (block_at size xs) (range_with_len 0 (div_ceil (length xs) size))

-- f 0, f 1, .. up to the count, one after the other
unfoldable pub first_blocks : {A : Type 0} → (ℕ → List A) → ℕ → List A
first_blocks f zero = []
first_blocks f (suc n) = first_blocks f n ++ f n
