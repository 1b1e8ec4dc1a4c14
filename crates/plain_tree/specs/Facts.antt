-- Facts of every node, and of every name, whatever the fact is.
use Rattle.std.specs.Prelude.{◌≡◌, ℕ, Some, option_map}
use Rattle.number_map.specs.Numbered.{NumberedValues, get}
use Rattle.plain_tree.specs.Nodes.{Name, Node, Nodes}
use Rattle.plain_tree.specs.NodesByNumber.{entry}

-- it holds of each node and its number
abbrev pub EachNode : (ℕ → Node → Type 0) → Nodes → Type 0
EachNode P nodes = (x : ℕ) (v : Node) → get nodes x ≡ Some v → P x v

-- it holds of each name that resolves to a node
abbrev pub EachName : (Name → Type 0) → Nodes → Type 0
EachName P nodes = (d : ℕ) (name : Name) (x : ℕ) → entry nodes d name ≡ Some x → P name

-- the one map has f of what the other has; f may depend on the number too
abbrev pub AgreesBy : {V W : Type 0} → (ℕ → V → W) → NumberedValues V → NumberedValues W → Type 0
AgreesBy f plain stored = (number : ℕ) → get stored number ≡ option_map (f number) (get plain number)
