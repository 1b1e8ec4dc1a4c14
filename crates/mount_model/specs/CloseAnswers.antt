-- The call that closes a handle: what it answers, and the mount that it leaves.
use Rattle.std.specs.Prelude.{ℕ, ◌||◌, if◌then◌else◌}
use Rattle.plain_tree.specs.Nodes.{Nodes}
use Rattle.plain_tree.specs.NodesByNumber.{is_named}
use Rattle.plain_tree.specs.Changes.{without_node}
use Rattle.mount_model.specs.PlainMount.{PlainMount, HandleList}
use Rattle.mount_model.specs.OpenHandles.{node_of, has_handle, without_handle}
use Rattle.mount_model.specs.AnswerForms.{Answer, done}
use Rattle.mount_model.specs.FileAnswers.{at_handle}

-- a node without name is removed with its last handle; the root counts as named
abbrev pub nodes_after_close : HandleList → Nodes → ℕ → Nodes
nodes_after_close handles nodes n = if is_named nodes n || has_handle handles n then nodes else without_node nodes n

-- the mount without the handle
abbrev pub with_closed : PlainMount → ℕ → ℕ → ℕ → PlainMount
with_closed m caller handle n = record m {
  handles = without_handle caller handle m.handles;
  nodes = nodes_after_close (without_handle caller handle m.handles) m.nodes n;
}

abbrev pub answer_to_close : PlainMount → ℕ → ℕ → Answer
answer_to_close m caller handle =
    at_handle m (node_of m.handles caller handle) λ n. done (with_closed m caller handle n)
