-- The laws of trees: each kind of change of a tree leaves a tree.
use Rattle.std.specs.Prelude.{◌≡◌, ◌≢◌, ℕ, ◌+◌, ◌<◌, true, false, List, [], length, Some, None}
use Rattle.policy_ctx.specs.declared.policy.Context.{Context}
use Rattle.number_map.specs.Numbered.{len}
use Rattle.plain_tree.specs.Nodes.{Name, Node, Nodes, children_of}
use Rattle.plain_tree.specs.NodesByNumber.{children, is_named, is_dir_at, entry}
use Rattle.plain_tree.specs.Changes.{with_new_node, dropped, without_node, moved, written, with_node_context}
use Rattle.plain_tree.specs.Tree.{IsTree, IsReached, IsReachedWithout}
use Rattle.mount_limits.specs.declared.TheConstants.{MAX_NODES, MAX_CHILDREN}

-- a new node is named and has no entries
pub record IsNew (v : Node) : Type 0 where
  pub named : v.named ≡ true
  pub empty : children_of v.body ≡ []

-- a name that a directory of the tree can get: it has none such, and there is space
pub record CanBeMade (nodes : Nodes) (d : ℕ) (name : Name) : Type 0 where
  pub reached : IsReached nodes d
  pub dir : is_dir_at nodes d ≡ true
  pub free : entry nodes d name ≡ None
  pub few_nodes : len nodes < MAX_NODES
  pub few_children : length (children nodes d) < MAX_CHILDREN

-- the new directory is neither the node nor below it; within one directory there is always space
pub record CanBeMoved (nodes : Nodes) (d : ℕ) (name : Name) (to : ℕ) (new_name : Name) (x : ℕ) : Type 0 where
  pub led : entry nodes d name ≡ Some x
  pub reached : IsReachedWithout nodes x to
  pub dir : is_dir_at nodes to ≡ true
  pub free : entry nodes to new_name ≡ None
  pub few_children : (to ≢ d) → length (children nodes to) < MAX_CHILDREN

abbrev pub MakingKeepsTrees : Type 0
MakingKeepsTrees = (nodes : Nodes) (next d : ℕ) (name : Name) (v : Node) → IsTree nodes next
    → CanBeMade nodes d name → IsNew v
    → IsTree (with_new_node nodes d name next v) (next + 1)

-- a node that loses its name has no entries
abbrev pub DroppingKeepsTrees : Type 0
DroppingKeepsTrees = (nodes : Nodes) (next d : ℕ) (name : Name) (x : ℕ) → IsTree nodes next
    → entry nodes d name ≡ Some x → children nodes x ≡ []
    → IsTree (dropped nodes d name x) next

-- a node that goes has no name
abbrev pub GoingKeepsTrees : Type 0
GoingKeepsTrees = (nodes : Nodes) (next x : ℕ) → IsTree nodes next → is_named nodes x ≡ false
    → IsTree (without_node nodes x) next

abbrev pub MovingKeepsTrees : Type 0
MovingKeepsTrees = (nodes : Nodes) (next d : ℕ) (name : Name) (to : ℕ) (new_name : Name) (x : ℕ)
    → IsTree nodes next → CanBeMoved nodes d name to new_name x
    → IsTree (moved nodes d name to new_name x) next

abbrev pub WritingKeepsTrees : Type 0
WritingKeepsTrees = (nodes : Nodes) (next x : ℕ) (f : List ℕ → List ℕ) → IsTree nodes next
    → IsTree (written nodes x f) next

-- the root gets no policy
abbrev pub EncryptingKeepsTrees : Type 0
EncryptingKeepsTrees = (nodes : Nodes) (next x : ℕ) (context : Context) → IsTree nodes next → (x ≢ 0)
    → IsTree (with_node_context nodes x context) next
