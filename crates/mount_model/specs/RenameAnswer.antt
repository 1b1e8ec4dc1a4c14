-- Rename: what it answers, its refusals in the order in which they are tried, and the mount that it
-- leaves.
use Rattle.std.specs.Prelude.{ℕ, not, ◌||◌, if◌then◌else◌}
use Rattle.plain_tree.specs.Nodes.{Name}
use Rattle.plain_tree.specs.Changes.{moved}
use Rattle.mount_model.specs.declared.reply.Refusal.TheVariants.{NoKey, Inval}
use Rattle.mount_model.specs.PlainMount.{PlainMount}
use Rattle.mount_model.specs.States.{is_keyed}
use Rattle.mount_model.specs.Walk.{PathParts, visible_entry}
use Rattle.mount_model.specs.EntryPaths.{is_root, last_part, parent, is_at_or_above}
use Rattle.mount_model.specs.AnswerForms.{Answer, refusal_with, done_unless, at_node, at_entry}
use Rattle.mount_model.specs.MoveRefusal.{move_refusal}

-- the node retains its policy, nonce and contents
abbrev pub with_moved : PlainMount → ℕ → Name → ℕ → Name → ℕ → PlainMount
with_moved m d name to new_name x = record m { nodes = moved m.nodes d name to new_name x }

-- what is answered once the old path has resolved to x, by this name of d: the last part of the new path
-- becomes the name of x
abbrev pub answer_to_move_from : PlainMount → PathParts → ℕ → Name → ℕ → Answer
answer_to_move_from m path d name x =
    at_node m (parent m path) λ to.
    done_unless m (move_refusal m d x to (is_at_or_above m x path) (last_part path))
    (with_moved m d name to (last_part path) x)

abbrev pub answer_to_rename : PlainMount → PathParts → PathParts → Answer
answer_to_rename m old_path new_path =
    if is_root old_path || is_root new_path then refusal_with m Inval else
    at_node m (parent m old_path) λ d.
    if not (is_keyed m d) then refusal_with m NoKey else
    at_entry m (visible_entry m d (last_part old_path)) (answer_to_move_from m new_path d)
