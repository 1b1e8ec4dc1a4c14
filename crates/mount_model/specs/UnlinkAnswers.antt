-- The calls that remove names: what each answers, its refusals in the order in which they are tried, and
-- the mount that it leaves.
use Rattle.std.specs.Prelude.{ℕ, length, not, ◌==◌, if◌then◌else◌}
use Rattle.plain_tree.specs.Nodes.{Name, Nodes}
use Rattle.plain_tree.specs.NodesByNumber.{children, is_dir_at}
use Rattle.plain_tree.specs.Changes.{dropped, without_node}
use Rattle.mount_model.specs.declared.reply.Refusal.TheVariants.{Inval, NotDir, IsDir, NotEmpty}
use Rattle.mount_model.specs.PlainMount.{PlainMount}
use Rattle.mount_model.specs.OpenHandles.{has_handle}
use Rattle.mount_model.specs.Walk.{PathParts, visible_entry}
use Rattle.mount_model.specs.EntryPaths.{is_root, last_part, parent}
use Rattle.mount_model.specs.AnswerForms.{Answer, refusal_with, done, at_node, at_entry}

abbrev pub left_by : PlainMount → Nodes → ℕ → Nodes
left_by m nodes x = if has_handle m.handles x then nodes else without_node nodes x

-- the mount without the name for x; x itself is removed if no handle is open on it
abbrev pub without_name : PlainMount → ℕ → Name → ℕ → PlainMount
without_name m d name x = record m { nodes = left_by m (dropped m.nodes d name x) x }

abbrev pub answer_to_unlink : PlainMount → PathParts → Answer
answer_to_unlink m path =
    if is_root path then refusal_with m IsDir else
    at_node m (parent m path) λ d.
    at_entry m (visible_entry m d (last_part path)) λ name x.
    if is_dir_at m.nodes x then refusal_with m IsDir else
    done (without_name m d name x)

abbrev pub answer_to_rmdir : PlainMount → PathParts → Answer
answer_to_rmdir m path =
    if is_root path then refusal_with m Inval else
    at_node m (parent m path) λ d.
    at_entry m (visible_entry m d (last_part path)) λ name x.
    if not (is_dir_at m.nodes x) then refusal_with m NotDir else
    if not (length (children m.nodes x) == 0) then refusal_with m NotEmpty else
    done (without_name m d name x)
