-- The laws of seals: each kind of change of a sealed tree leaves it sealed, and a text resolves as its name
-- does.
use Rattle.std.specs.Prelude.{◌≡◌, ℕ, false, List, [], Some, None}
use Rattle.policy_ctx.specs.declared.policy.Context.{Context}
use Rattle.plain_tree.specs.Nodes.{Name, Node, Nodes}
use Rattle.plain_tree.specs.NodesByNumber.{children, context_at, is_named, entry}
use Rattle.plain_tree.specs.Changes.{with_new_node, dropped, without_node, moved, written, with_node_context}
use Rattle.plain_tree.specs.Tree.{IsTree}
use Rattle.plain_tree.specs.Laws.{IsNew, CanBeMade, CanBeMoved}
use Rattle.plain_tree.specs.Seals.{Texts, entry_by_text, IsSealed}
use Rattle.plain_tree.specs.FittingNodes.{FitsInto, MovesInto}

abbrev pub MakingKeepsSeals : Type 0
MakingKeepsSeals = (texts : Texts) (nodes : Nodes) (next d : ℕ) (name : Name) (v : Node)
    → IsTree nodes next → CanBeMade nodes d name → IsNew v
    → IsSealed texts nodes → FitsInto texts nodes d name v
    → IsSealed texts (with_new_node nodes d name next v)

abbrev pub DroppingKeepsSeals : Type 0
DroppingKeepsSeals = (texts : Texts) (nodes : Nodes) (next d : ℕ) (name : Name) (x : ℕ)
    → IsTree nodes next → entry nodes d name ≡ Some x → children nodes x ≡ []
    → IsSealed texts nodes → IsSealed texts (dropped nodes d name x)

abbrev pub GoingKeepsSeals : Type 0
GoingKeepsSeals = (texts : Texts) (nodes : Nodes) (next x : ℕ) → IsTree nodes next
    → is_named nodes x ≡ false
    → IsSealed texts nodes → IsSealed texts (without_node nodes x)

abbrev pub MovingKeepsSeals : Type 0
MovingKeepsSeals =
    (texts : Texts) (nodes : Nodes) (next d : ℕ) (name : Name) (to : ℕ) (new_name : Name) (x : ℕ)
    → IsTree nodes next → CanBeMoved nodes d name to new_name x
    → IsSealed texts nodes → MovesInto texts nodes to new_name x
    → IsSealed texts (moved nodes d name to new_name x)

abbrev pub WritingKeepsSeals : Type 0
WritingKeepsSeals = (texts : Texts) (nodes : Nodes) (x : ℕ) (f : List ℕ → List ℕ) → IsSealed texts nodes
    → IsSealed texts (written nodes x f)

-- an empty directory without policy gets one
abbrev pub EncryptingKeepsSeals : Type 0
EncryptingKeepsSeals = (texts : Texts) (nodes : Nodes) (x : ℕ) (context : Context)
    → context_at nodes x ≡ None → children nodes x ≡ []
    → IsSealed texts nodes → IsSealed texts (with_node_context nodes x context)

-- if a key is added that no text rested on, the texts are as before
abbrev pub SameTextsKeepSeals : Type 0
SameTextsKeepSeals = (texts others : Texts) (nodes : Nodes) → IsSealed texts nodes
    → ((d : ℕ) (context : Context) (name : Name) → context_at nodes d ≡ Some context
    → others d context name ≡ texts d context name)
    → IsSealed others nodes

-- the text of a name resolves to the node that the name resolves to
abbrev pub TextsResolve : Type 0
TextsResolve = (texts : Texts) (nodes : Nodes) (d : ℕ) (context : Context) (name : Name) (x : ℕ)
    → IsSealed texts nodes
    → context_at nodes d ≡ Some context → entry nodes d name ≡ Some x
    → entry_by_text texts nodes d context (texts d context name) ≡ Some x
