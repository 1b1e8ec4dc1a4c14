-- The image of a tree: what is stored of each node, in order of number.
use Rattle.std.specs.Prelude.{ℕ, List, Option, map}
use Rattle.std.specs.List.{flat_map}
use Rattle.disk_tree.specs.Entries.{Entries}
use Rattle.disk_tree.specs.Nodes.{entries_of}
use Rattle.disk_tree.specs.declared.node.Body.{Body}

-- a node: the bytes of its context, if it is under a policy, and the entries, blocks or target as they are
-- stored
pub record ImageNode : Type 0 where
  pub number : ℕ
  pub context : Option (List ℕ)
  pub body : Body

abbrev pub Image : Type 0
Image = List ImageNode

-- the numbers of the nodes
abbrev pub numbers_of : Image → List ℕ
numbers_of image = map (λ node. node.number) image

-- the entries of all directories
abbrev pub all_entries : Image → Entries
all_entries image = flat_map (λ node. entries_of node.body) image

-- the numbers to which entries refer
abbrev pub children_of : Image → List ℕ
children_of image = map (λ e. e.1) (all_entries image)
