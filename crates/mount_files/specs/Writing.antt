-- What a write changes of a state: the contents of the one file, and nothing else.
use Rattle.std.specs.Prelude.{◌≡◌, ℕ, List, [], ◌∷◌, Option, Some, None}
use Rattle.data_crypt.specs.Blocks.{Seal}
use Rattle.disk_tree.specs.DiskTree.{Disk}
use Rattle.file_disk.specs.Bodies.{disk_after_write}
use Rattle.mount_state.specs.SameBut.{SameBut}
use Rattle.mount_state.specs.SameBut as part
use Rattle.mount_state.specs.declared.state.MountState.{MountState}
use Rattle.mount_files.specs.Seals.{IsSealOf}

-- the disk is the state's once the bytes are written into the file's stored blocks, as its contents are
-- sealed
pub record IsWrittenOn (s : MountState) (disk : Disk) (file offset : ℕ) (bytes : List ℕ) : Type 0 where
  pub seal : Option Seal
  pub sealed : IsSealOf s file seal
  pub written : disk ≡ disk_after_write s.disk file seal offset bytes

-- so it is for the file of the open handle; without a handle nothing is written
abbrev pub IsWrittenTo : MountState → Disk → Option ℕ → ℕ → List ℕ → Type 0
IsWrittenTo s disk None offset bytes = ⊥
IsWrittenTo s disk (Some file) offset bytes = IsWrittenOn s disk file offset bytes

-- nothing differs but the disk
abbrev pub SameButDisk : MountState → MountState → Type 0
SameButDisk old new = SameBut (part.Disk ∷ []) old new
