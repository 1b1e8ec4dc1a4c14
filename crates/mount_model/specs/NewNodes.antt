-- The node that a call makes, and the mount in which a name names it.
use Rattle.std.specs.Prelude.{ℕ, ◌+◌, true, List, Option, Some, None}
use Rattle.policy_ctx.specs.declared.policy.Context.{Context}
use Rattle.plain_tree.specs.Nodes.{Name, Body, Node}
use Rattle.plain_tree.specs.NodesByNumber.{context_at}
use Rattle.plain_tree.specs.Changes.{with_new_node}
use Rattle.mount_model.specs.PlainMount.{PlainMount}

-- the policy of the directory, with a nonce of its own
abbrev pub inherited_context : List ℕ → Option Context → Option Context
inherited_context nonce None = None
inherited_context nonce (Some c) = Some (record { policy = c.policy; nonce = nonce })

abbrev pub new_node : PlainMount → ℕ → List ℕ → Body → Node
new_node m d nonce body = record {
  named = true;
  context = inherited_context nonce (context_at m.nodes d);
  body = body;
}

-- the mount in which the name names a new node
abbrev pub with_node : PlainMount → ℕ → Name → Node → PlainMount
with_node m d name v = record m { nodes = with_new_node m.nodes d name m.next v; next = m.next + 1 }
