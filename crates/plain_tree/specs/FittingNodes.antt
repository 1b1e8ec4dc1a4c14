-- When a node fits into a directory with a policy: it has that policy, and its name has a text of its own.
use Rattle.std.specs.Prelude.{◌≡◌, ℕ, false, Some, option_map}
use Rattle.policy_ctx.specs.declared.policy.Context.{Context}
use Rattle.plain_tree.specs.Nodes.{Name, Node, Nodes}
use Rattle.plain_tree.specs.NodesByNumber.{context_at, policy_at}
use Rattle.plain_tree.specs.Seals.{Texts, has_text}

-- under a policy the new node has that policy, and no name has the new one's text
pub record FitsInto (texts : Texts) (nodes : Nodes) (d : ℕ) (name : Name) (v : Node) : Type 0 where
  pub inherits : (context : Context) → context_at nodes d ≡ Some context
      → option_map (λ c. c.policy) v.context ≡ Some context.policy
  pub apart : (context : Context) → context_at nodes d ≡ Some context
      → has_text texts nodes d context (texts d context name) ≡ false

-- the same of a node that is moved; a name that is to go counts among those that are there
pub record MovesInto (texts : Texts) (nodes : Nodes) (to : ℕ) (new_name : Name) (x : ℕ) : Type 0 where
  pub inherits : (context : Context) → context_at nodes to ≡ Some context
      → policy_at nodes x ≡ Some context.policy
  pub apart : (context : Context) → context_at nodes to ≡ Some context
      → has_text texts nodes to context (texts to context new_name) ≡ false
