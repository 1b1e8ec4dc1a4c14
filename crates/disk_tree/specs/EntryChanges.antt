-- How the disk changes when an entry is added, removed or moved.
use Rattle.std.specs.Prelude.{ℕ, true, false, List}
use Rattle.number_map.specs.Numbered.{changed}
use Rattle.disk_tree.specs.Entries.{with_entry, without_entry}
use Rattle.disk_tree.specs.Nodes.{with_entries, on_body, named_as}
use Rattle.disk_tree.specs.DiskTree.{Disk}

-- the entry is in the directory, and its node is named
abbrev pub with_entry_and_name : Disk → ℕ → List ℕ → ℕ → Disk
with_entry_and_name disk dir name number =
    changed (changed disk dir (on_body (with_entries (with_entry name number)))) number (named_as true)

-- the entry is removed, and its node has no name
abbrev pub without_entry_and_name : Disk → ℕ → List ℕ → ℕ → Disk
without_entry_and_name disk dir name number =
    changed (changed disk dir (on_body (with_entries (without_entry name)))) number (named_as false)

-- the entry is removed from one directory and is the last in the other, or in the same one
abbrev pub with_moved_entry : Disk → ℕ → List ℕ → ℕ → List ℕ → ℕ → Disk
with_moved_entry disk dir name to new_name number =
    changed (changed disk dir (on_body (with_entries (without_entry name)))) to
    (on_body (with_entries (with_entry new_name number)))
