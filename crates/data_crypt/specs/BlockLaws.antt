-- What holds of encrypted blocks for every key and unit.
use Rattle.std.specs.Prelude.{◌≡◌, ℕ, List, length}
use Rattle.mount_limits.specs.declared.TheConstants.{BLOCK_SIZE}
use Rattle.byte_words.specs.Bytes.{AreBytes}
use Rattle.policy_ctx.specs.declared.policy.Unit.{Unit as DataUnit}
use Rattle.data_crypt.specs.Units.{sealed_block, opened_block}

-- a block of contents: 4,096 bytes
pub record IsContentsBlock (block : List ℕ) : Type 0 where
  pub size : length block ≡ BLOCK_SIZE
  pub bytes : AreBytes block

-- opening returns each block that was sealed
abbrev pub OpeningUndoes : Type 0
OpeningUndoes =
    (key : List ℕ) (unit : DataUnit) (first : ℕ) (block : List ℕ) → AreBytes key → IsContentsBlock block →
    opened_block key unit first (sealed_block key unit first block) ≡ block

-- sealing returns each block that was opened
abbrev pub SealingUndoes : Type 0
SealingUndoes =
    (key : List ℕ) (unit : DataUnit) (first : ℕ) (block : List ℕ) → AreBytes key → IsContentsBlock block →
    sealed_block key unit first (opened_block key unit first block) ≡ block

-- both make blocks of blocks
abbrev pub MakesBlocks : Type 0
MakesBlocks =
    (key : List ℕ) (unit : DataUnit) (first : ℕ) (block : List ℕ) → AreBytes key → IsContentsBlock block →
    IsContentsBlock (sealed_block key unit first block) × IsContentsBlock (opened_block key unit first block)
