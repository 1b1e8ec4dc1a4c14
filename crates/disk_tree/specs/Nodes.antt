-- A stored node: its context or none, whether an entry resolves to it, and a body.
use Rattle.std.specs.Prelude.{ℕ, Bool, List, [], Some}
use Rattle.disk_tree.specs.Entries.{Entries}
use Rattle.disk_tree.specs.declared.node.StoredNode.{StoredNode}
use Rattle.disk_tree.specs.declared.node.Body.{Body}
use Rattle.disk_tree.specs.declared.node.Body.TheVariants.{Dir, File, Link}

-- the entries of a directory; no other body has any
abbrev pub entries_of : Body → Entries
entries_of (Dir entries) = entries
entries_of (File blocks size) = []
entries_of (Link target) = []

-- the blocks of a file; no other body has any
abbrev pub blocks_of : Body → List (List ℕ)
blocks_of (Dir entries) = []
blocks_of (File blocks size) = blocks
blocks_of (Link target) = []

-- the size of a file in bytes; 0 for other bodies
abbrev pub size_of : Body → ℕ
size_of (Dir entries) = 0
size_of (File blocks size) = size
size_of (Link target) = 0

abbrev pub IsDir : Body → Type 0
IsDir (Dir entries) = Unit {0}
IsDir (File blocks size) = ⊥
IsDir (Link target) = ⊥

abbrev pub IsFile : Body → Type 0
IsFile (Dir entries) = ⊥
IsFile (File blocks size) = Unit {0}
IsFile (Link target) = ⊥

-- a change of a directory's entries; every other body stays
abbrev pub with_entries : (Entries → Entries) → Body → Body
with_entries f (Dir entries) = Dir (f entries)
with_entries f (File blocks size) = File blocks size
with_entries f (Link target) = Link target

-- a change of a file's blocks; every other body stays
abbrev pub with_blocks : (List (List ℕ) → List (List ℕ)) → Body → Body
with_blocks f (Dir entries) = Dir entries
with_blocks f (File blocks size) = File (f blocks) size
with_blocks f (Link target) = Link target

abbrev pub with_size : ℕ → Body → Body
with_size size (Dir entries) = Dir entries
with_size size (File blocks old) = File blocks size
with_size size (Link target) = Link target

-- the node with this change of its body
abbrev pub on_body : (Body → Body) → StoredNode → StoredNode
on_body f node = record node { body = f node.body }

abbrev pub named_as : Bool → StoredNode → StoredNode
named_as named node = record node { named = named }

abbrev pub with_context : List ℕ → StoredNode → StoredNode
with_context context node = record node { context = Some context }
