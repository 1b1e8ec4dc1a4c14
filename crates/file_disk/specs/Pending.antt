-- What a file holds, and what a read that has begun returns.
use Rattle.std.specs.Prelude.{◌≡◌, ℕ, ◌<◌, ◌+◌, ◌-◌, ◌*◌, ◌/◌, List, [], length, Option}
use Rattle.std.specs.Prelude.{None, Some, option_map, min, nat_le, if◌then◌else◌}
use Rattle.std.specs.Int.{div_ceil}
use Rattle.mount_limits.specs.declared.TheConstants.{BLOCK_SIZE}
use Rattle.byte_words.specs.Bytes.{AreBytes}
use Rattle.byte_words.specs.Contents.{bytes_from}
use Rattle.number_map.specs.Numbered.{get}
use Rattle.data_crypt.specs.Blocks.{Seal}
use Rattle.data_crypt.specs.Parts.{blocks_joined, content_of}
use Rattle.disk_tree.specs.DiskTree.{Disk, file_blocks, file_size}
use Rattle.file_disk.specs.Bodies.{file_body}
use Rattle.file_disk.specs.Keys.{pending_seal}
use Rattle.file_disk.specs.declared.pending.PendingRead.{PendingRead}

-- the file holds these contents, under this seal
pub record IsStored (disk : Disk) (file : ℕ) (seal : Option Seal) (contents : List ℕ) : Type 0 where
  pub body : option_map (λ node. node.body) (get disk file) ≡ Some (file_body seal contents)
  pub bytes : AreBytes contents

-- the content that a read will have: none, if there is nothing to decrypt
abbrev pub pending_content : Option PendingRead → List ℕ
pending_content None = []
pending_content (Some read) = content_of (pending_seal read.key) read.block read.text.items read.skip read.len

-- the size of a file that has a block for each of its bytes, else 0
abbrev pub whole_size : Disk → ℕ → ℕ
whole_size disk file =
    if nat_le (file_size disk file) (BLOCK_SIZE * length (file_blocks disk file))
    then file_size disk file else 0

-- how many bytes a part has that ends with the file
abbrev pub part_len : Disk → ℕ → ℕ → ℕ → ℕ
part_len disk file offset len = min len (whole_size disk file - offset)

-- the content begins at this byte of the file
abbrev pub IsAt : ℕ → PendingRead → Type 0
IsAt offset read = BLOCK_SIZE * read.block + read.skip ≡ offset

-- there is content; it begins in the first block, and the text has no block after the one in which it ends
pub record IsOfPart (read : PendingRead) : Type 0 where
  pub some : 0 < read.len
  pub begins : read.skip < BLOCK_SIZE
  pub ends : length read.text.items ≡ BLOCK_SIZE * div_ceil (read.skip + read.len) BLOCK_SIZE

-- the text is the stored blocks that it begins and ends with
abbrev pub IsCopied : Disk → ℕ → PendingRead → Type 0
IsCopied disk file read =
    read.text.items ≡ blocks_joined (file_blocks disk file) read.block (length read.text.items / BLOCK_SIZE)

-- the content that a read will have is the part that was asked for, whatever contents the file holds
abbrev pub IsPart : Disk → ℕ → Option Seal → ℕ → ℕ → Option PendingRead → Type 0
IsPart disk file seal offset len lent =
    (contents : List ℕ) → IsStored disk file seal contents
    → pending_content lent ≡ bytes_from offset len contents
