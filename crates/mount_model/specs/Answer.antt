-- What the mount answers to each call, and the mount that it leaves: one page of definitions for each
-- group of calls, brought together here.
use Rattle.std.specs.Prelude.{ℕ, []}
use Rattle.mount_model.specs.declared.call.Call.{Call}
use Rattle.mount_model.specs.declared.call.Op.{Op}
use Rattle.mount_model.specs.declared.call.Op.TheVariants as op
use Rattle.plain_tree.specs.Nodes.{Dir, File, Link}
use Rattle.mount_model.specs.PlainMount.{PlainMount}
use Rattle.mount_model.specs.AnswerForms.{done}
use Rattle.mount_model.specs.LookAnswers.{answer_to_read_link, answer_to_stat}
use Rattle.mount_model.specs.ListAnswers.{answer_to_list}
pub use Rattle.mount_model.specs.AnswerForms.{Answer, refusal_with}
pub use Rattle.mount_model.specs.KeyAnswers.{with_key, answer_to_add_key}
pub use Rattle.mount_model.specs.RemovalAnswers.{answer_to_remove_key}
pub use Rattle.mount_model.specs.KeyAnswers.{answer_to_key_status}
pub use Rattle.mount_model.specs.RemovalAnswers.{answer_to_remove_key_all}
use Rattle.mount_model.specs.PolicyAnswers.{answer_to_set_policy, answer_to_get_policy}
use Rattle.mount_model.specs.NameAnswers.{answer_to_make}
use Rattle.mount_model.specs.UnlinkAnswers.{answer_to_unlink, answer_to_rmdir}
use Rattle.mount_model.specs.RenameAnswer.{answer_to_rename}
use Rattle.mount_model.specs.FileAnswers.{answer_to_read, answer_to_write}
use Rattle.mount_model.specs.CloseAnswers.{answer_to_close}
use Rattle.mount_model.specs.OpenAnswers.{answer_to_open}
use Rattle.mount_model.specs.RecordAnswers.{answer_to_meta_load, answer_to_meta_store}

-- the answer to what a caller asks as a user
abbrev pub answer_to : PlainMount → ℕ → ℕ → Op → Answer
answer_to m caller uid (op.AddKey raw) = answer_to_add_key m uid raw
answer_to m caller uid (op.RemoveKey id) = answer_to_remove_key m uid id
answer_to m caller uid (op.RemoveKeyAll id) = answer_to_remove_key_all m uid id
answer_to m caller uid (op.KeyStatus id) = answer_to_key_status m uid id
answer_to m caller uid (op.SetPolicy path policy nonce) = answer_to_set_policy m uid path policy nonce
answer_to m caller uid (op.GetPolicy path) = answer_to_get_policy m path
answer_to m caller uid (op.Mkdir path nonce) = answer_to_make m path nonce (Dir [])
answer_to m caller uid (op.Create path nonce) = answer_to_make m path nonce (File [])
answer_to m caller uid (op.Symlink path target nonce) = answer_to_make m path nonce (Link target)
answer_to m caller uid (op.ReadLink path) = answer_to_read_link m path
answer_to m caller uid (op.Unlink path) = answer_to_unlink m path
answer_to m caller uid (op.Rmdir path) = answer_to_rmdir m path
answer_to m caller uid (op.Rename old_path new_path) = answer_to_rename m old_path new_path
answer_to m caller uid (op.List path start) = answer_to_list m path start
answer_to m caller uid (op.Stat path) = answer_to_stat m path
answer_to m caller uid (op.OpenNode path) = answer_to_open m caller path
answer_to m caller uid (op.Read handle offset len) = answer_to_read m caller handle offset len
answer_to m caller uid (op.Write handle offset bytes) = answer_to_write m caller handle offset bytes
answer_to m caller uid (op.Close handle) = answer_to_close m caller handle
answer_to m caller uid op.DropCaches = done m
answer_to m caller uid (op.MetaLoad name) = answer_to_meta_load m name
answer_to m caller uid (op.MetaStore name expected bytes) = answer_to_meta_store m name expected bytes

-- the answer to a caller's call
abbrev pub answer_of : PlainMount → ℕ → Call → Answer
answer_of m caller call = answer_to m caller call.uid call.op
