-- The kind of key that a node has by its form on the disk, and whether a key or a kind is that one.
use Rattle.std.specs.Prelude.{Bool, true, false, Option, Some, None}
use Rattle.fsc_keys.specs.declared.file_keys.KeyKind.{KeyKind}
use Rattle.fsc_keys.specs.declared.file_keys.KeyKind.TheVariants.{Contents, Names}
use Rattle.fsc_keys.specs.declared.file_keys.FileKey.{FileKey}
use Rattle.fsc_keys.specs.declared.file_keys.FileKey.TheVariants as key
use Rattle.disk_tree.specs.declared.node.StoredNode.{StoredNode}
use Rattle.disk_tree.specs.declared.node.Body.{Body}
use Rattle.disk_tree.specs.declared.node.Body.TheVariants.{Dir, File, Link}

-- the contents of a file are encrypted, of a directory its names, of a symlink its target as a name
abbrev pub disk_kind_of : Body → KeyKind
disk_kind_of (Dir entries) = Names
disk_kind_of (File blocks size) = Contents
disk_kind_of (Link target) = Names

abbrev pub kind_on_disk : Option StoredNode → KeyKind
kind_on_disk None = Names
kind_on_disk (Some v) = disk_kind_of v.body

abbrev pub is_of_kind : KeyKind → FileKey → Bool
is_of_kind Contents (key.Contents bytes) = true
is_of_kind Contents (key.Names bytes) = false
is_of_kind Names (key.Contents bytes) = false
is_of_kind Names (key.Names bytes) = true

abbrev pub same_kind : KeyKind → KeyKind → Bool
same_kind Contents Contents = true
same_kind Contents Names = false
same_kind Names Contents = false
same_kind Names Names = true
