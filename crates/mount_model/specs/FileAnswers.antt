-- The calls that read and write an open file: what each answers, its refusals in the order in which
-- they are tried, and the mount that it leaves.
use Rattle.std.specs.Prelude.{ℕ, ◌+◌, Bool, List, [], length, Option, Some, None, nat_lt, if◌then◌else◌}
use Rattle.std.specs.Option.{option_map_or}
use Rattle.byte_words.specs.Contents.{with_bytes, bytes_from}
use Rattle.number_map.specs.Numbered.{get}
use Rattle.plain_tree.specs.Nodes.{Nodes, contents_of}
use Rattle.plain_tree.specs.NodesByNumber.{is_dir_at}
use Rattle.plain_tree.specs.Changes.{written}
use Rattle.mount_limits.specs.declared.TheConstants.{MAX_FILE_BYTES, MAX_READ_BYTES}
use Rattle.mount_model.specs.declared.reply.Reply.{Reply}
use Rattle.mount_model.specs.declared.reply.Reply.TheVariants.{Content}
use Rattle.mount_model.specs.declared.reply.Refusal.TheVariants.{IsDir, BadHandle, TooBig, NoSpace}
use Rattle.mount_model.specs.PlainMount.{PlainMount}
use Rattle.mount_model.specs.OpenHandles.{node_of}
use Rattle.mount_model.specs.AnswerForms.{Answer, refusal_with, unchanged_with, done}
use Rattle.mount_model.specs.Blocks.{lacks_blocks}

-- what is answered at the node of the handle; BadHandle if the caller has none of that number
abbrev pub at_handle : PlainMount → Option ℕ → (ℕ → Answer) → Answer
at_handle m None f = refusal_with m BadHandle
at_handle m (Some n) f = f n

-- the same if the node has to be a file
abbrev pub at_file : PlainMount → ℕ → ℕ → (ℕ → Answer) → Answer
at_file m caller handle f =
    at_handle m (node_of m.handles caller handle) λ n.
    if is_dir_at m.nodes n then refusal_with m IsDir else
    f n

-- the contents of the file; empty if there is none
abbrev pub contents_at : Nodes → ℕ → List ℕ
contents_at nodes n = option_map_or (λ v. contents_of v.body) (get nodes n) []

-- the bytes from the offset to the end of the file, at most len
abbrev pub content_of : PlainMount → ℕ → ℕ → ℕ → Reply
content_of m n offset len = Content (bytes_from offset len (contents_at m.nodes n))

abbrev pub answer_to_read : PlainMount → ℕ → ℕ → ℕ → ℕ → Answer
answer_to_read m caller handle offset len =
    at_file m caller handle λ n.
    if nat_lt MAX_READ_BYTES len then refusal_with m TooBig else
    unchanged_with m (content_of m n offset len)

-- the contents of file n, once the bytes are written, would need more blocks than are free beside those that
-- they have
abbrev pub lacks_blocks_for : PlainMount → ℕ → ℕ → List ℕ → Bool
lacks_blocks_for m n offset bytes =
    lacks_blocks m (contents_at m.nodes n) (with_bytes offset bytes (contents_at m.nodes n))

-- a gap before the offset is filled with zeros; no bytes change nothing
abbrev pub answer_to_write : PlainMount → ℕ → ℕ → ℕ → List ℕ → Answer
answer_to_write m caller handle offset bytes =
    at_file m caller handle λ n.
    if nat_lt MAX_FILE_BYTES (offset + length bytes) then refusal_with m TooBig else
    if lacks_blocks_for m n offset bytes then refusal_with m NoSpace else
    done (record m { nodes = written m.nodes n (with_bytes offset bytes) })
