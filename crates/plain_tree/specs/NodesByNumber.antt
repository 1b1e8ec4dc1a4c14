-- What a number has; if there is no node: no entries, no context, no name.
use Rattle.std.specs.Prelude.{ℕ, Bool, false, [], Option, Some, None, option_map}
use Rattle.std.specs.Str.{bytes_eq}
use Rattle.std.specs.Map.{lookup}
use Rattle.policy_ctx.specs.declared.policy.Policy.{Policy}
use Rattle.policy_ctx.specs.declared.policy.Context.{Context}
use Rattle.number_map.specs.Numbered.{get}
use Rattle.plain_tree.specs.Nodes.{Name, Children, Node, Nodes, children_of, is_dir}

abbrev pub children_in : Option Node → Children
children_in None = []
children_in (Some v) = children_of v.body

abbrev pub context_in : Option Node → Option Context
context_in None = None
context_in (Some v) = v.context

abbrev pub is_named_in : Option Node → Bool
is_named_in None = false
is_named_in (Some v) = v.named

abbrev pub is_dir_in : Option Node → Bool
is_dir_in None = false
is_dir_in (Some v) = is_dir v.body

abbrev pub children : Nodes → ℕ → Children
children nodes d = children_in (get nodes d)

abbrev pub context_at : Nodes → ℕ → Option Context
context_at nodes x = context_in (get nodes x)

abbrev pub policy_at : Nodes → ℕ → Option Policy
policy_at nodes x = option_map (λ c. c.policy) (context_at nodes x)

abbrev pub is_named : Nodes → ℕ → Bool
is_named nodes x = is_named_in (get nodes x)

abbrev pub is_dir_at : Nodes → ℕ → Bool
is_dir_at nodes d = is_dir_in (get nodes d)

-- the node that the name resolves to in the directory
abbrev pub entry : Nodes → ℕ → Name → Option ℕ
entry nodes d name = lookup (bytes_eq name) (children nodes d)
