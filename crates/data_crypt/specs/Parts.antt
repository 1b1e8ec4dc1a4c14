-- A piece that is written into a file, and a part that is read of it, block by block.
use Rattle.std.specs.Prelude.{ℕ, ◌+◌, ◌-◌, ◌*◌, ◌/◌, ◌&&◌, List, [], length, map, take, drop}
use Rattle.std.specs.Prelude.{min, nat_le, nat_lt, Option, slice_index_or, if◌then◌else◌}
use Rattle.std.specs.List.{range_with_len}
use Rattle.mount_limits.specs.declared.TheConstants.{BLOCK_SIZE}
use Rattle.byte_words.specs.Blocks.{block_at, first_blocks}
use Rattle.byte_words.specs.Contents.{spliced}
use Rattle.data_crypt.specs.Blocks.{Seal, read_block}

-- where bytes that are written from byte `at` of a file on begin in its block j
abbrev pub place_in : ℕ → ℕ → ℕ
place_in at j = min BLOCK_SIZE (at - BLOCK_SIZE * j)

-- the part of the bytes that is in the block
abbrev pub part_in : ℕ → List ℕ → ℕ → List ℕ
part_in at bytes j = take (BLOCK_SIZE - place_in at j) (drop (BLOCK_SIZE * j - at) bytes)

-- block j with its part of the bytes
unfoldable pub block_with : ℕ → List ℕ → ℕ → List ℕ → List ℕ
block_with at bytes j block = spliced block (place_in at j) (part_in at bytes j)

-- the blocks from `first` on and before `end` made again, each with its number; the others stay
unfoldable pub edited : (ℕ → List ℕ → List ℕ) → ℕ → ℕ → List (List ℕ) → List (List ℕ)
edited made first end blocks =
    map (λ j. if nat_le first j && nat_lt j end then made j (slice_index_or blocks j [])
    else slice_index_or blocks j []) (range_with_len 0 (length blocks))

-- block j stored again with its part of the bytes, if the file had `had` blocks before: one of those is
-- read first, and a new one is plain zeros
unfoldable pub rewritten : (ℕ → List ℕ → List ℕ) → (ℕ → List ℕ → List ℕ) → ℕ → ℕ → List ℕ → ℕ → List ℕ
    → List ℕ
rewritten store read had at bytes j block =
    store j (block_with at bytes j (if nat_lt j had then read j block else block))

-- `count` stored blocks from block `from` on, side by side
unfoldable pub blocks_joined : List (List ℕ) → ℕ → ℕ → List ℕ
blocks_joined blocks from count = first_blocks (λ i. slice_index_or blocks (from + i) []) count

-- the plain text of such blocks
unfoldable pub opened_text : Option Seal → ℕ → List ℕ → List ℕ
opened_text seal from text =
    first_blocks (λ i. read_block seal (from + i) (block_at BLOCK_SIZE text i)) (length text / BLOCK_SIZE)

-- a part of it
abbrev pub content_of : Option Seal → ℕ → List ℕ → ℕ → ℕ → List ℕ
content_of seal from text skip count = take count (drop skip (opened_text seal from text))
