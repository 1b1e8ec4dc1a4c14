-- The image of a disk is that of the mount that it represents.
use Rattle.std.specs.Prelude.{◌≡◌, ℕ}
use Rattle.disk_tree.specs.DiskTree.{Disk}
use Rattle.mount_model.specs.PlainMount.{PlainMount}
use Rattle.mount_state.specs.Represents.{RepresentsTree}
use Rattle.tree_image.specs.Images.{image_of, mount_image}

abbrev pub ImagesAgree : Type 0
ImagesAgree = (disk : Disk) (next : ℕ) (m : PlainMount) → RepresentsTree disk next m
    → image_of disk ≡ mount_image m
