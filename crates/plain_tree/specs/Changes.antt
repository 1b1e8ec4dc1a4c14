-- The kinds of change of a mount's nodes. Two edits of a directory serve them: a name put in, and a
-- name taken out.
use Rattle.std.specs.Prelude.{ℕ, Bool, true, false, List, [], None, Some}
use Rattle.policy_ctx.specs.declared.policy.Context.{Context}
use Rattle.number_map.specs.Numbered.{empty, insert, changed, remove}
use Rattle.plain_tree.specs.Nodes.{Name, Dir, Node, Nodes, Children}
use Rattle.plain_tree.specs.BodyChanges.{with_child, without_child, with_children, with_contents}

-- ---- changes of one node

abbrev pub on_children : (Children → Children) → Node → Node
on_children f v = record v { body = with_children f v.body }

abbrev pub on_contents : (List ℕ → List ℕ) → Node → Node
on_contents f v = record v { body = with_contents f v.body }

abbrev pub named_as : Bool → Node → Node
named_as named v = record v { named = named }

abbrev pub with_context : Context → Node → Node
with_context context v = record v { context = Some context }

-- ---- the two edits of a directory

abbrev pub with_name : Nodes → ℕ → Name → ℕ → Nodes
with_name nodes d name x = changed nodes d (on_children (with_child name x))

abbrev pub without_entry_name : Nodes → ℕ → Name → Nodes
without_entry_name nodes d name = changed nodes d (on_children (without_child name))

-- ---- the kinds of change

-- node 0 alone, an empty directory without policy
abbrev pub first_nodes : Nodes
first_nodes = insert empty 0 (record { named = true; context = None; body = Dir [] })

-- node x is added, and the directory's name resolves to it
abbrev pub with_new_node : Nodes → ℕ → Name → ℕ → Node → Nodes
with_new_node nodes d name x v = insert (with_name nodes d name x) x v

-- the directory's name for x goes, and x has none from then on
abbrev pub dropped : Nodes → ℕ → Name → ℕ → Nodes
dropped nodes d name x = changed (without_entry_name nodes d name) x (named_as false)

-- node x goes
abbrev pub without_node : Nodes → ℕ → Nodes
without_node nodes x = remove nodes x

-- the name is removed from the one directory, and the new name in the other, or in the same, resolves to x
abbrev pub moved : Nodes → ℕ → Name → ℕ → Name → ℕ → Nodes
moved nodes d name to new_name x = with_name (without_entry_name nodes d name) to new_name x

-- a file's contents change
abbrev pub written : Nodes → ℕ → (List ℕ → List ℕ) → Nodes
written nodes x f = changed nodes x (on_contents f)

-- a node gets its policy and nonce
abbrev pub with_node_context : Nodes → ℕ → Context → Nodes
with_node_context nodes x context = changed nodes x (with_context context)
