-- What holds of the contents of files and their stored blocks, for every key and contents.
use Rattle.std.specs.Prelude.{◌≡◌, ℕ, ◌+◌, ◌-◌, ◌*◌, ◌<◌, ◌≤◌, List, ◌++◌}
use Rattle.std.specs.Prelude.{length, replicate, Option, None, Some}
use Rattle.mount_limits.specs.declared.TheConstants.{BLOCK_SIZE}
use Rattle.byte_words.specs.Bytes.{AreBytes}
use Rattle.byte_words.specs.Contents.{with_bytes, bytes_from}
use Rattle.data_crypt.specs.Blocks.{Seal, block_count, plain_block, stored_block}
use Rattle.data_crypt.specs.Blocks.{read_block, stored_blocks, read_contents}
use Rattle.data_crypt.specs.Parts.{block_with, edited, rewritten, blocks_joined, content_of}

-- the key, if there is one, is bytes
abbrev pub IsKeyOfBytes : Option Seal → Type 0
IsKeyOfBytes None = Unit {0}
IsKeyOfBytes (Some seal) = AreBytes seal.key

-- the contents are read back from what is stored of them
abbrev pub ContentsComeBack : Type 0
ContentsComeBack = (seal : Option Seal) (contents : List ℕ) → IsKeyOfBytes seal → AreBytes contents →
    read_contents seal (length contents) (stored_blocks seal contents) ≡ contents

-- each block of contents into which bytes were written is the block before with its part of them, also if
-- there was none before
abbrev pub PiecesFallIntoBlocks : Type 0
PiecesFallIntoBlocks = (at : ℕ) (bytes contents : List ℕ) (j : ℕ) →
    plain_block (with_bytes at bytes contents) j ≡ block_with at bytes j (plain_block contents j)

-- these blocks are enough for a piece: they begin where it does or before, with no gap after those that are
-- there, and end where it ends
pub record Covers (first end at count had : ℕ) : Type 0 where
  pub begins : BLOCK_SIZE * first ≤ at
  pub joins : first ≤ had
  pub reaches : at + count ≤ BLOCK_SIZE * end
  pub ends : BLOCK_SIZE * end < at + count + BLOCK_SIZE

-- the stored blocks after a piece was written: those that it covers are stored again
abbrev pub WritesBlocks : Type 0
WritesBlocks =
    (seal : Option Seal) (at : ℕ) (bytes contents : List ℕ) (first end : ℕ) → IsKeyOfBytes seal
    → AreBytes contents →
    0 < length bytes → Covers first end at (length bytes) (block_count contents) →
    edited (rewritten (stored_block seal) (read_block seal) (block_count contents) at bytes) first end
    (stored_blocks seal contents ++ replicate (end - block_count contents) (replicate BLOCK_SIZE 0))
    ≡ stored_blocks seal (with_bytes at bytes contents)

-- a part of some stored blocks, decrypted, is that part of the contents
abbrev pub ReadsParts : Type 0
ReadsParts =
    (seal : Option Seal) (contents : List ℕ) (from count skip part : ℕ) → IsKeyOfBytes seal
    → AreBytes contents →
    from + count ≤ block_count contents → BLOCK_SIZE * from + skip + part ≤ length contents
    → skip + part ≤ BLOCK_SIZE * count →
    content_of seal from (blocks_joined (stored_blocks seal contents) from count) skip part
    ≡ bytes_from (BLOCK_SIZE * from + skip) part contents
