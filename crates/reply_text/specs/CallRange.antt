-- The ranges of a call's values, as far as its text shows them: bytes below 256, and numbers within their
-- types.
use Rattle.std.specs.Prelude.{◌<◌, ◌^◌, ⊤, length}
use Rattle.hex.specs.Hex.{IsBytes}
use Rattle.mount_model.specs.declared.call.Op.{Op}
use Rattle.mount_model.specs.declared.call.Op.TheVariants as op

abbrev pub CallIsInRange : Op → Type 0
CallIsInRange (op.AddKey raw) = length raw < 2 ^ 64
CallIsInRange (op.RemoveKey id) = IsBytes id.0
CallIsInRange (op.RemoveKeyAll id) = IsBytes id.0
CallIsInRange (op.KeyStatus id) = IsBytes id.0
CallIsInRange (op.SetPolicy path policy nonce) = IsBytes policy
CallIsInRange (op.GetPolicy path) = ⊤
CallIsInRange (op.Mkdir path nonce) = ⊤
CallIsInRange (op.Create path nonce) = ⊤
CallIsInRange (op.Symlink path target nonce) = ⊤
CallIsInRange (op.ReadLink path) = ⊤
CallIsInRange (op.Unlink path) = ⊤
CallIsInRange (op.Rmdir path) = ⊤
CallIsInRange (op.Rename old_path new_path) = ⊤
CallIsInRange (op.List path start) = start < 2 ^ 32
CallIsInRange (op.Stat path) = ⊤
CallIsInRange (op.OpenNode path) = ⊤
CallIsInRange (op.Read handle offset len) = (handle < 2 ^ 32) × (offset < 2 ^ 32) × (len < 2 ^ 32)
CallIsInRange (op.Write handle offset bytes) = (handle < 2 ^ 32) × (offset < 2 ^ 32) × (length bytes < 2 ^ 64)
CallIsInRange (op.Close handle) = handle < 2 ^ 32
CallIsInRange op.DropCaches = ⊤
CallIsInRange (op.MetaLoad name) = ⊤
CallIsInRange (op.MetaStore name expected bytes) = (expected < 2 ^ 32) × (length bytes < 2 ^ 64)
