-- The one name of a node.
use Rattle.std.specs.Prelude.{ℕ, ◌==◌, List, map, Option}
use Rattle.std.specs.List.{find, flat_map}
use Rattle.number_map.specs.Numbered.{entries}
use Rattle.plain_tree.specs.Nodes.{Name, Node, Nodes, children_of}

-- a name with the directory that has it, under its number
abbrev pub PlacedName : Type 0
PlacedName = (ℕ × Node) × (Name × ℕ)

abbrev pub names_in : ℕ × Node → List PlacedName
names_in dir = map (λ e. (dir, e)) (children_of dir.1.body)

abbrev pub placed_names : Nodes → List PlacedName
placed_names nodes = flat_map names_in (entries nodes)

-- the name that resolves to node n
abbrev pub name_to : Nodes → ℕ → Option PlacedName
name_to nodes n = find (λ placed. placed.1.1 == n) (placed_names nodes)
