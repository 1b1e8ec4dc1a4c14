-- The call that opens a node: what it answers, its refusals in the order in which they are tried, and the
-- mount that it leaves.
use Rattle.std.specs.Prelude.{ℕ, ◌+◌, Bool, false, [], ◌∷◌, ◌++◌, length, not, ◌||◌, nat_le, if◌then◌else◌}
use Rattle.std.specs.Option.{option_map_or}
use Rattle.number_map.specs.Numbered.{get, insert}
use Rattle.plain_tree.specs.Nodes.{Nodes, is_link}
use Rattle.mount_model.specs.declared.limits.TheConstants.{MAX_HANDLES, MAX_OPENS}
use Rattle.mount_model.specs.declared.reply.Reply.TheVariants.{Opened}
use Rattle.mount_model.specs.declared.reply.Refusal.TheVariants.{NoKey, Inval, NoSpace}
use Rattle.mount_model.specs.PlainMount.{PlainMount}
use Rattle.mount_model.specs.OpenHandles.{opens_of}
use Rattle.mount_model.specs.States.{is_keyed}
use Rattle.mount_model.specs.Walk.{PathParts, walk_path}
use Rattle.mount_model.specs.AnswerForms.{Answer, refusal_with, at_node}

-- the mount in which the caller has a new handle on the node
abbrev pub with_handle : PlainMount → ℕ → ℕ → PlainMount
with_handle m caller n = record m {
  handles = m.handles ++ record { caller = caller; number = opens_of m.opened caller; node = n } ∷ [];
  opened = insert m.opened caller (opens_of m.opened caller + 1);
}

-- 4,096 handles are open, or the caller has opened as many as there are numbers
abbrev pub is_out_of_handles : PlainMount → ℕ → Bool
is_out_of_handles m caller =
    nat_le MAX_HANDLES (length m.handles) || nat_le MAX_OPENS (opens_of m.opened caller)

abbrev pub opened_on : PlainMount → ℕ → ℕ → Answer
opened_on m caller n = record { reply = Opened (opens_of m.opened caller); mount = with_handle m caller n }

abbrev pub is_link_at : Nodes → ℕ → Bool
is_link_at nodes n = option_map_or (λ v. is_link v.body) (get nodes n) false

-- what is answered at node n
abbrev pub open_answer : PlainMount → ℕ → ℕ → Answer
open_answer m caller n =
    if is_link_at m.nodes n then refusal_with m Inval else
    if not (is_keyed m n) then refusal_with m NoKey else
    if is_out_of_handles m caller then refusal_with m NoSpace else
    opened_on m caller n

abbrev pub answer_to_open : PlainMount → ℕ → PathParts → Answer
answer_to_open m caller path = at_node m (walk_path m path) (open_answer m caller)
