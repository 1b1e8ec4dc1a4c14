-- The content of the disk: a finite map from numbers to stored nodes.
use Rattle.std.specs.Prelude.{ℕ, true, List, [], Option, Some, None, length}
use Rattle.std.specs.List.{sum_by}
use Rattle.number_map.specs.Numbered.{NumberedValues, empty, get, insert, entries}
use Rattle.disk_tree.specs.Entries.{Entries}
use Rattle.disk_tree.specs.Nodes.{entries_of, blocks_of, size_of, IsDir, IsFile}
use Rattle.disk_tree.specs.declared.node.StoredNode.{StoredNode}
use Rattle.disk_tree.specs.declared.node.Body.TheVariants.{Dir}

abbrev pub Disk : Type 0
Disk = NumberedValues StoredNode

-- the initial disk: node 0 alone, an empty directory without context, which counts as named
abbrev pub root : StoredNode
root = record { context = None; named = true; body = Dir [] }

abbrev pub first_disk : Disk
first_disk = insert empty 0 root

-- the value for the node, or `none` if there is no node
abbrev pub of_node : {A : Type 1} → A → (StoredNode → A) → Option StoredNode → A
of_node none f None = none
of_node none f (Some node) = f node

abbrev pub IsDirAt : Disk → ℕ → Type 0
IsDirAt disk number = of_node ⊥ (λ node. IsDir node.body) (get disk number)

abbrev pub IsFileAt : Disk → ℕ → Type 0
IsFileAt disk number = of_node ⊥ (λ node. IsFile node.body) (get disk number)

abbrev pub entries_in : Option StoredNode → Entries
entries_in None = []
entries_in (Some node) = entries_of node.body

abbrev pub blocks_in : Option StoredNode → List (List ℕ)
blocks_in None = []
blocks_in (Some node) = blocks_of node.body

abbrev pub size_in : Option StoredNode → ℕ
size_in None = 0
size_in (Some node) = size_of node.body

-- the entries of the directory, the blocks of the file, and the file's size in bytes
abbrev pub children : Disk → ℕ → Entries
children disk number = entries_in (get disk number)

abbrev pub file_blocks : Disk → ℕ → List (List ℕ)
file_blocks disk number = blocks_in (get disk number)

abbrev pub file_size : Disk → ℕ → ℕ
file_size disk number = size_in (get disk number)

-- the number of blocks of all files
unfoldable pub block_total : Disk → ℕ
block_total disk = sum_by (λ e. length (blocks_of e.1.body)) (entries disk)
