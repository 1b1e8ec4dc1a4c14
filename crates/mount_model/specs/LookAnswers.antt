-- The calls that look at one node by its path: what each answers. None changes the mount.
use Rattle.std.specs.Prelude.{ℕ, length, Option, Some, None, is_some}
use Rattle.number_map.specs.Numbered.{get}
use Rattle.plain_tree.specs.Nodes.{Body, Dir, File, Link, Node}
use Rattle.mount_model.specs.declared.reply.NodeKind.{NodeKind}
use Rattle.mount_model.specs.declared.reply.NodeKind.TheVariants as kind
use Rattle.mount_model.specs.declared.reply.Reply.TheVariants as reply
use Rattle.mount_model.specs.declared.reply.Refusal.TheVariants.{Inval, NotFound}
use Rattle.mount_model.specs.PlainMount.{PlainMount}
use Rattle.mount_model.specs.States.{is_keyed, shown}
use Rattle.mount_model.specs.Walk.{PathParts, walk_path}
use Rattle.mount_model.specs.AnswerForms.{Answer, refusal_with, unchanged_with, at_node}

-- ---- ReadLink

abbrev pub target_answer : PlainMount → ℕ → Option Node → Answer
target_answer m n None = refusal_with m NotFound
target_answer m n (Some v) = elim v.body [
  | Dir entries ↦ refusal_with m Inval
  | File contents ↦ refusal_with m Inval
  | Link target ↦ unchanged_with m (reply.Target (shown m n target))
]

abbrev pub answer_to_read_link : PlainMount → PathParts → Answer
answer_to_read_link m path = at_node m (walk_path m path) λ n. target_answer m n (get m.nodes n)

-- ---- Stat

abbrev pub node_kind : Body → NodeKind
node_kind (Dir entries) = kind.Dir
node_kind (File contents) = kind.File
node_kind (Link target) = kind.Link

-- a directory's number of entries, a file's length, the length of what ReadLink returns
abbrev pub size_of : PlainMount → ℕ → Body → ℕ
size_of m n (Dir entries) = length entries
size_of m n (File contents) = length contents
size_of m n (Link target) = length (shown m n target)

abbrev pub stat_answer : PlainMount → ℕ → Option Node → Answer
stat_answer m n None = refusal_with m NotFound
stat_answer m n (Some v) =
    unchanged_with m (reply.Stat (node_kind v.body) n (size_of m n v.body) (is_some v.context) (is_keyed m n))

abbrev pub answer_to_stat : PlainMount → PathParts → Answer
answer_to_stat m path = at_node m (walk_path m path) λ n. stat_answer m n (get m.nodes n)
