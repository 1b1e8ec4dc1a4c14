-- The replies to each call that are possible whatever raw keys were added.
use Rattle.std.specs.Prelude.{◌≡◌, ⊤, ℕ, Bool, true, false, ◌⊎◌, length, nat_lt}
use Rattle.user_claims.specs.Claims.{ClaimSet}
use Rattle.meta_files.specs.declared.files.TheConstants.{MAX_RECORD_BYTES}
use Rattle.mount_model.specs.declared.call.Op.{Op}
use Rattle.mount_model.specs.declared.call.Op.TheVariants as op
use Rattle.mount_model.specs.declared.reply.Reply.{Reply}
use Rattle.mount_model.specs.declared.reply.Reply.TheVariants.{Done, Held, Stored, Refused}
use Rattle.mount_model.specs.declared.reply.Refusal.TheVariants.{NotFound, TooBig, NoSpace, Changed}
use Rattle.mount_model.specs.declared.reply.Refusal.TheVariants.{BadHandle, NoMemory}
use Rattle.mount_model.specs.KeyReplies.{IsReplyOrNoMemory, addition_by, removal_by, clearing_by, status_by}

-- the possible replies to loading a record, and to storing one that isn't too big
abbrev pub is_load_reply : Reply → Bool
is_load_reply (Held version bytes) = true
is_load_reply (Refused NotFound) = true
is_load_reply (Refused NoMemory) = true
is_load_reply other = false

abbrev pub is_store_reply : Reply → Bool
is_store_reply (Stored version) = true
is_store_reply (Refused (Changed version)) = true
is_store_reply (Refused NoSpace) = true
is_store_reply (Refused NoMemory) = true
is_store_reply other = false

-- TooBig is the answer to bytes that are too many, and to no others
abbrev pub ReportsStore : Bool → Reply → Type 0
ReportsStore true reply = IsReplyOrNoMemory (Refused TooBig) reply
ReportsStore false reply = is_store_reply reply ≡ true

-- A reply to a user's operation, by the claims before it. Of a key the claims determine all but whether
-- some open handle needs it. Removing keys, a status, closing and dropping caches are never out of
-- memory.
abbrev pub ReportsClaims : ClaimSet → ℕ → Op → Reply → Type 0
ReportsClaims claims uid (op.AddKey raw) reply = IsReplyOrNoMemory (addition_by claims uid raw) reply
ReportsClaims claims uid (op.RemoveKey id) reply = (busy : Bool) × (reply ≡ removal_by claims busy uid id)
ReportsClaims claims uid (op.RemoveKeyAll id) reply = (busy : Bool) × (reply ≡ clearing_by claims busy uid id)
ReportsClaims claims uid (op.KeyStatus id) reply = (busy : Bool) × (reply ≡ status_by claims busy uid id)
ReportsClaims claims uid (op.SetPolicy path policy nonce) reply = ⊤
ReportsClaims claims uid (op.GetPolicy path) reply = ⊤
ReportsClaims claims uid (op.Mkdir path nonce) reply = ⊤
ReportsClaims claims uid (op.Create path nonce) reply = ⊤
ReportsClaims claims uid (op.Symlink path target nonce) reply = ⊤
ReportsClaims claims uid (op.ReadLink path) reply = ⊤
ReportsClaims claims uid (op.Unlink path) reply = ⊤
ReportsClaims claims uid (op.Rmdir path) reply = ⊤
ReportsClaims claims uid (op.Rename old_path new_path) reply = ⊤
ReportsClaims claims uid (op.List path start) reply = ⊤
ReportsClaims claims uid (op.Stat path) reply = ⊤
ReportsClaims claims uid (op.OpenNode path) reply = ⊤
ReportsClaims claims uid (op.Read handle offset len) reply = ⊤
ReportsClaims claims uid (op.Write handle offset bytes) reply = ⊤
ReportsClaims claims uid (op.Close handle) reply = (reply ≡ Done) ⊎ (reply ≡ Refused BadHandle)
ReportsClaims claims uid op.DropCaches reply = reply ≡ Done
ReportsClaims claims uid (op.MetaLoad name) reply = is_load_reply reply ≡ true
ReportsClaims claims uid (op.MetaStore name expected bytes) reply =
    ReportsStore (nat_lt MAX_RECORD_BYTES (length bytes)) reply
