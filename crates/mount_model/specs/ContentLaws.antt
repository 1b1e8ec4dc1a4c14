-- A read returns the contents that were written, as long as no call writes between.
use Rattle.std.specs.Prelude.{◌≡◌, ⊤, ℕ, Bool, true, false, ◌==◌, ◌&&◌, not, List, [], ◌∷◌, ◌++◌, Option, None, Some}
use Rattle.byte_words.specs.Contents.{with_bytes, bytes_from}
use Rattle.number_map.specs.Numbered.{get}
use Rattle.plain_tree.specs.Nodes.{Node, File}
use Rattle.mount_model.specs.declared.call.Op.{Op}
use Rattle.mount_model.specs.declared.call.Op.TheVariants as op
use Rattle.mount_model.specs.declared.reply.Reply.TheVariants.{Done, Content}
use Rattle.mount_model.specs.PlainMount.{PlainMount, HandleList}
use Rattle.mount_model.specs.OpenHandles.{node_of}
use Rattle.mount_model.specs.ClaimHistory.{is_refused}
use Rattle.mount_model.specs.History.{MountEntry, History, IsLegal, mount_after_entry, mount_after}
use Rattle.mount_model.specs.Lawful.{AllFit, KeysAgree}

abbrev pub is_node : ℕ → Option ℕ → Bool
is_node n None = false
is_node n (Some x) = x == n

-- the operation writes through a handle of the caller that is on node n
abbrev pub is_write_to : HandleList → ℕ → ℕ → Op → Bool
is_write_to handles n caller (op.Write number offset bytes) = is_node n (node_of handles caller number)
is_write_to handles n caller other = false

-- the entry is such a write, and isn't refused
abbrev pub writes_to : PlainMount → ℕ → MountEntry → Bool
writes_to m n e = not (is_refused e.reply) && is_write_to m.handles n e.who e.call.op

-- no entry of a history that begins at the mount writes to node n
abbrev pub NobodyWrites : ℕ → PlainMount → History → Type 0
NobodyWrites n m [] = ⊤
NobodyWrites n m (e ∷ es) = (writes_to m n e ≡ false) × NobodyWrites n (mount_after_entry m e) es

-- an entry that writes bytes to node n, a file, from an offset on: which contents it had before
pub record Writes (m : PlainMount) (n offset : ℕ) (bytes contents : List ℕ) (e : MountEntry) : Type 0 where
  pub number : ℕ
  pub call : e.call.op ≡ op.Write number offset bytes
  pub done : e.reply ≡ Done
  pub on : node_of m.handles e.who number ≡ Some n
  pub node : Node
  pub there : get m.nodes n ≡ Some node
  pub file : node.body ≡ File contents

-- an entry that reads at most `len` bytes of node n from a start on
pub record Reads (m : PlainMount) (n start len : ℕ) (got : List ℕ) (e : MountEntry) : Type 0 where
  pub number : ℕ
  pub call : e.call.op ≡ op.Read number start len
  pub told : e.reply ≡ Content got
  pub on : node_of m.handles e.who number ≡ Some n

-- a read returns the contents that the write left, as long as no call between writes to the node. Any
-- other calls are allowed: keys are removed and added again, handles are closed and opened, names move
abbrev pub WrittenIsRead : Type 0
WrittenIsRead =
    (before between : History) (write read : MountEntry) (n offset start len : ℕ)
    (bytes contents got : List ℕ)
    → AllFit (before ++ write ∷ between ++ read ∷ []) → KeysAgree (before ++ write ∷ between ++ read ∷ [])
    → IsLegal (before ++ write ∷ between ++ read ∷ [])
    → Writes (mount_after before) n offset bytes contents write
    → NobodyWrites n (mount_after (before ++ write ∷ [])) between
    → Reads (mount_after (before ++ write ∷ between)) n start len got read
    → got ≡ bytes_from start len (with_bytes offset bytes contents)
