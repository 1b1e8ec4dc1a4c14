-- When nodes are a tree: each node with a name is reached from the root by names, and has one name.
use Rattle.std.specs.Prelude.{◌≡◌, ◌≢◌, ℕ, ◌<◌, ◌≤◌, true, false, [], length, Some, None, is_some}
use Rattle.std.specs.List.{IsDistinct}
use Rattle.std.specs.Map.{keys_of}
use Rattle.std.specs.Str.{bytes_eq}
use Rattle.number_map.specs.Numbered.{get, len}
use Rattle.plain_tree.specs.Nodes.{Name, Nodes}
use Rattle.plain_tree.specs.NodesByNumber.{children, context_at, is_named, is_dir_at, entry}
use Rattle.mount_limits.specs.declared.TheConstants.{MAX_NODES, MAX_CHILDREN}

-- reached from the root by names
pub data IsReached (nodes : Nodes) : ℕ → Type 0 where
  root : IsReached nodes 0
  step : (d : ℕ) (name : Name) (x : ℕ) → entry nodes d name ≡ Some x → IsReached nodes d → IsReached nodes x

-- reached so without a step to y
pub data IsReachedWithout (nodes : Nodes) (y : ℕ) : ℕ → Type 0 where
  root : IsReachedWithout nodes y 0
  step : (d : ℕ) (name : Name) (x : ℕ) → entry nodes d name ≡ Some x → (x ≢ y)
      → IsReachedWithout nodes y d → IsReachedWithout nodes y x

-- node 0 is a directory, counts as named and never has a policy
pub record HasRoot (nodes : Nodes) : Type 0 where
  pub named : is_named nodes 0 ≡ true
  pub dir : is_dir_at nodes 0 ≡ true
  pub plain : context_at nodes 0 ≡ None

-- an entry resolves to a named node other than the root, no two entries resolve to one node, no two of a
-- directory have one name, and a node without name has no entries
pub record HasNames (nodes : Nodes) : Type 0 where
  pub leads : (d : ℕ) (name : Name) (x : ℕ) → entry nodes d name ≡ Some x
      → (x ≢ 0) × (is_named nodes x ≡ true)
  pub once : (d e : ℕ) (a b : Name) (x : ℕ) → entry nodes d a ≡ Some x → entry nodes e b ≡ Some x
      → (d ≡ e) × (a ≡ b)
  pub distinct : (d : ℕ) → IsDistinct bytes_eq (keys_of (children nodes d))
  pub nameless : (x : ℕ) → is_named nodes x ≡ false → children nodes x ≡ []

-- the numbers are below next, and there are no more nodes, and entries of a directory, than may be
pub record HasSpace (nodes : Nodes) (next : ℕ) : Type 0 where
  pub below : (x : ℕ) → is_some (get nodes x) ≡ true → x < next
  pub few_nodes : len nodes ≤ MAX_NODES
  pub few_children : (d : ℕ) → length (children nodes d) ≤ MAX_CHILDREN

pub record IsTree (nodes : Nodes) (next : ℕ) : Type 0 where
  pub root : HasRoot nodes
  pub names : HasNames nodes
  pub reached : (x : ℕ) → is_named nodes x ≡ true → IsReached nodes x
  pub room : HasSpace nodes next
