-- What the types of a call or a reply ensure besides its range: an identifier has 16 bytes, a policy 24,
-- and the name of a record is of bytes.
use Rattle.std.specs.Prelude.{◌≡◌, ⊤, length}
use Rattle.hex.specs.Hex.{IsBytes}
use Rattle.mount_model.specs.declared.call.Op.{Op}
use Rattle.mount_model.specs.declared.call.Op.TheVariants as op
use Rattle.mount_model.specs.declared.reply.Reply.{Reply}
use Rattle.mount_model.specs.declared.reply.Reply.TheVariants as reply

abbrev pub CallIsTyped : Op → Type 0
CallIsTyped (op.AddKey raw) = ⊤
CallIsTyped (op.RemoveKey id) = length id.0 ≡ 16
CallIsTyped (op.RemoveKeyAll id) = length id.0 ≡ 16
CallIsTyped (op.KeyStatus id) = length id.0 ≡ 16
CallIsTyped (op.SetPolicy path policy nonce) = length policy ≡ 24
CallIsTyped (op.GetPolicy path) = ⊤
CallIsTyped (op.Mkdir path nonce) = ⊤
CallIsTyped (op.Create path nonce) = ⊤
CallIsTyped (op.Symlink path target nonce) = ⊤
CallIsTyped (op.ReadLink path) = ⊤
CallIsTyped (op.Unlink path) = ⊤
CallIsTyped (op.Rmdir path) = ⊤
CallIsTyped (op.Rename old_path new_path) = ⊤
CallIsTyped (op.List path start) = ⊤
CallIsTyped (op.Stat path) = ⊤
CallIsTyped (op.OpenNode path) = ⊤
CallIsTyped (op.Read handle offset len) = ⊤
CallIsTyped (op.Write handle offset bytes) = ⊤
CallIsTyped (op.Close handle) = ⊤
CallIsTyped op.DropCaches = ⊤
CallIsTyped (op.MetaLoad name) = IsBytes name
CallIsTyped (op.MetaStore name expected bytes) = IsBytes name

abbrev pub ReplyIsTyped : Reply → Type 0
ReplyIsTyped (reply.Added id) = length id.0 ≡ 16
ReplyIsTyped (reply.Removed others busy) = ⊤
ReplyIsTyped (reply.Status state by_self users) = ⊤
ReplyIsTyped reply.Done = ⊤
ReplyIsTyped (reply.PolicyIs policy) = length policy ≡ 24
ReplyIsTyped (reply.Names names more) = ⊤
ReplyIsTyped (reply.Stat kind node size encrypted keyed) = ⊤
ReplyIsTyped (reply.Opened number) = ⊤
ReplyIsTyped (reply.Content bytes) = ⊤
ReplyIsTyped (reply.Target bytes) = ⊤
ReplyIsTyped (reply.Held version bytes) = ⊤
ReplyIsTyped (reply.Stored version) = ⊤
ReplyIsTyped (reply.Refused refusal) = ⊤
