-- The blocks of a file: each has 4,096 bytes.
use Rattle.std.specs.Prelude.{ℕ, ◌-◌, List, [], ◌++◌, length, take, drop}
use Rattle.std.specs.Prelude.{replicate, slice_set, slice_index_or}
use Rattle.mount_limits.specs.declared.TheConstants.{BLOCK_SIZE}

abbrev pub zero_block : List ℕ
zero_block = replicate BLOCK_SIZE 0

-- blocks of zeros are added at the end, until there are `count`; a list that has as many stays
abbrev pub blocks_grown_to : ℕ → List (List ℕ) → List (List ℕ)
blocks_grown_to count blocks = blocks ++ replicate (count - length blocks) zero_block

-- Bytes w are written over the beginning of a block, up to the shorter length. A caller that writes
-- through a slice of the block leaves w of the block's length, and then the block is w.
abbrev pub written_over_front : List ℕ → List ℕ → List ℕ
written_over_front block w = take (length block) (w ++ drop (length w) block)

-- the block at the index
abbrev pub block_of : List (List ℕ) → ℕ → List ℕ
block_of blocks index = slice_index_or blocks index []

abbrev pub with_block : ℕ → List ℕ → List (List ℕ) → List (List ℕ)
with_block index w blocks = slice_set blocks index (written_over_front (block_of blocks index) w)
