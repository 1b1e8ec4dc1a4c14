-- A file's contents as the blocks that are stored of it.
use Rattle.std.specs.Prelude.{ℕ, ◌+◌, ◌*◌, List, [], length, map, replicate, take, Option, None, Some, slice_index_or}
use Rattle.std.specs.Int.{div_ceil}
use Rattle.std.specs.List.{range_with_len}
use Rattle.mount_limits.specs.declared.TheConstants.{BLOCK_SIZE}
use Rattle.byte_words.specs.Blocks.{block_at, first_blocks}
use Rattle.byte_words.specs.Xor.{zero_filled}
use Rattle.policy_ctx.specs.declared.policy.Unit.{Unit as DataUnit}
use Rattle.data_crypt.specs.Units.{unit_count, sealed_block, opened_block}

-- what a file's contents are encrypted with: the bytes of a key, the index at which its units start, and
-- their size
pub record Seal : Type 0 where
  pub key : List ℕ
  pub start : ℕ
  pub unit : DataUnit

-- what is left of it in place once its key is wiped with zeros
abbrev pub seal_without_key : Seal → Seal
seal_without_key seal = record { key = replicate 64 0; start = seal.start; unit = seal.unit }

-- nothing, if there was none
unfoldable pub wiped_seal : Option Seal → Option Seal
wiped_seal None = None
wiped_seal (Some seal) = Some (seal_without_key seal)

-- the index of the first unit of block j
abbrev pub first_index : Seal → ℕ → ℕ
first_index seal j = seal.start + j * unit_count seal.unit

-- how many blocks of 4,096 bytes the contents have; the last may be begun
unfoldable pub block_count : List ℕ → ℕ
block_count contents = div_ceil (length contents) BLOCK_SIZE

-- block j of the contents, the last filled with zeros
unfoldable pub plain_block : List ℕ → ℕ → List ℕ
plain_block contents j = zero_filled BLOCK_SIZE (block_at BLOCK_SIZE contents j)

-- what is stored of block j: under a key it is encrypted, without one it stays plain
unfoldable pub stored_block : Option Seal → ℕ → List ℕ → List ℕ
stored_block None j block = block
stored_block (Some seal) j block = sealed_block seal.key seal.unit (first_index seal j) block

-- the block that was stored
unfoldable pub read_block : Option Seal → ℕ → List ℕ → List ℕ
read_block None j block = block
read_block (Some seal) j block = opened_block seal.key seal.unit (first_index seal j) block

-- what is made of each block of the contents, with its number
unfoldable pub blocks_by : (ℕ → List ℕ → List ℕ) → List ℕ → List (List ℕ)
blocks_by store contents =
    map (λ j. store j (plain_block contents j)) (range_with_len 0 (block_count contents))

-- the stored blocks of a file with these contents
abbrev pub stored_blocks : Option Seal → List ℕ → List (List ℕ)
stored_blocks seal contents = blocks_by (stored_block seal) contents

-- the contents that a file of this size has, by its stored blocks
unfoldable pub read_contents : Option Seal → ℕ → List (List ℕ) → List ℕ
read_contents seal size blocks =
    take size (first_blocks (λ j. read_block seal j (slice_index_or blocks j [])) (length blocks))
