-- The body of a file that holds contents, and what a write makes of a body.
use Rattle.std.specs.Prelude.{ℕ, ◌+◌, ◌-◌, ◌*◌, ◌/◌, ◌<◌, ◌&&◌, Bool, List, [], ◌∷◌, length, min, max, nat_le, Option}
use Rattle.std.specs.Int.{div_ceil}
use Rattle.number_map.specs.Numbered.{changed}
use Rattle.data_crypt.specs.Blocks.{Seal, read_block, stored_block, stored_blocks}
use Rattle.data_crypt.specs.Parts.{edited, rewritten}
use Rattle.disk_tree.specs.Blocks.{blocks_grown_to}
use Rattle.disk_tree.specs.Nodes.{size_of, on_body, with_blocks, with_size}
use Rattle.disk_tree.specs.DiskTree.{Disk, block_total, file_blocks}
use Rattle.mount_limits.specs.declared.TheConstants.{BLOCK_SIZE, MAX_BLOCKS}
use Rattle.disk_tree.specs.declared.node.Body.{Body}
use Rattle.disk_tree.specs.declared.node.Body.TheVariants.{File}

-- the body of a file with these contents
abbrev pub file_body : Option Seal → List ℕ → Body
file_body seal contents = File (stored_blocks seal contents) (length contents)

-- one past the last block of bytes that are written from here on
abbrev pub end_block : ℕ → List ℕ → ℕ
end_block at bytes = div_ceil (at + length bytes) BLOCK_SIZE

-- The blocks after a write: they grow as far as the bytes go, and those that the bytes touch, and all that
-- are new, are stored again. The others stay.
unfoldable pub blocks_with : Option Seal → ℕ → List ℕ → List (List ℕ) → List (List ℕ)
blocks_with seal at bytes blocks =
    edited (rewritten (stored_block seal) (read_block seal) (length blocks) at bytes)
    (min (length blocks) (at / BLOCK_SIZE)) (end_block at bytes) (blocks_grown_to (end_block at bytes) blocks)

-- the body after a write; without bytes nothing changes
abbrev pub body_after_write : Option Seal → ℕ → List ℕ → Body → Body
body_after_write seal at [] body = body
body_after_write seal at (b ∷ bs) body =
    with_size (max (size_of body) (at + length (b ∷ bs))) (with_blocks (blocks_with seal at (b ∷ bs)) body)

-- the blocks that all files would have after a write
abbrev pub blocks_after : Disk → ℕ → ℕ → List ℕ → ℕ
blocks_after disk file at bytes = block_total disk + (end_block at bytes - length (file_blocks disk file))

-- they would be more than all files may have
abbrev pub ExceedsDisk : Disk → ℕ → ℕ → List ℕ → Type 0
ExceedsDisk disk file at bytes = MAX_BLOCKS < blocks_after disk file at bytes

-- the disk after a write: this file's body is changed
abbrev pub disk_after_write : Disk → ℕ → Option Seal → ℕ → List ℕ → Disk
disk_after_write disk file seal at bytes = changed disk file (on_body (body_after_write seal at bytes))

-- block j stored again with its part of the bytes, if the file had `had` blocks before
abbrev pub rewritten_block : Option Seal → ℕ → ℕ → List ℕ → ℕ → List ℕ → List ℕ
rewritten_block seal had at bytes j block
    = rewritten (stored_block seal) (read_block seal) had at bytes j block

-- whether `count` bytes that are written from byte `at` on cover all of block j
abbrev pub covers_block : ℕ → ℕ → ℕ → Bool
covers_block at count j = nat_le at (BLOCK_SIZE * j) && nat_le (BLOCK_SIZE * j + BLOCK_SIZE) (at + count)

-- some blocks of the file stored again
abbrev pub blocks_rewritten : Disk → ℕ → Option Seal → ℕ → ℕ → List ℕ → ℕ → ℕ → Disk
blocks_rewritten disk file seal had at bytes first end =
    changed disk file (on_body (with_blocks (edited (rewritten_block seal had at bytes) first end)))
