-- Which operations carry a path, or bytes of any length.
use Rattle.std.specs.Prelude.{Bool, true, false}
use Rattle.mount_model.specs.declared.call.Op.{Op}
use Rattle.mount_model.specs.declared.call.Op.TheVariants.{RemoveKey, RemoveKeyAll, KeyStatus}
use Rattle.mount_model.specs.declared.call.Op.TheVariants.{SetPolicy, GetPolicy, Mkdir, Create, Symlink}
use Rattle.mount_model.specs.declared.call.Op.TheVariants.{ReadLink, Unlink, Rmdir, Rename, OpenNode}
use Rattle.mount_model.specs.declared.call.Op.TheVariants.{Close, DropCaches}
use Rattle.mount_model.specs.declared.call.Op.TheVariants as op

-- whether the operation carries a path, or bytes of any length
abbrev pub carries_bytes : Op → Bool
carries_bytes (RemoveKey id) = false
carries_bytes (RemoveKeyAll id) = false
carries_bytes (KeyStatus id) = false
carries_bytes (op.Read handle offset len) = false
carries_bytes (Close handle) = false
carries_bytes DropCaches = false
carries_bytes other = true

-- whether it carries a path, and nothing else
abbrev pub carries_path_alone : Op → Bool
carries_path_alone (GetPolicy path) = true
carries_path_alone (ReadLink path) = true
carries_path_alone (Unlink path) = true
carries_path_alone (Rmdir path) = true
carries_path_alone (op.Stat path) = true
carries_path_alone (OpenNode path) = true
carries_path_alone other = false

-- whether it carries a path
abbrev pub carries_path : Op → Bool
carries_path (SetPolicy path policy nonce) = true
carries_path (Mkdir path nonce) = true
carries_path (Create path nonce) = true
carries_path (Symlink path target nonce) = true
carries_path (Rename old_path new_path) = true
carries_path (op.List path start) = true
carries_path other = carries_path_alone other
