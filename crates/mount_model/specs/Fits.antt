-- Which calls a mount may be asked.
use Rattle.std.specs.Prelude.{◌≤◌, ⊤, length}
use Rattle.mount_model.specs.declared.call.Call.{Call}
use Rattle.mount_model.specs.declared.call.Op.{Op}
use Rattle.mount_model.specs.declared.call.Op.TheVariants.{AddKey, RemoveKey, RemoveKeyAll, KeyStatus}
use Rattle.mount_model.specs.declared.call.Op.TheVariants.{SetPolicy, GetPolicy, Mkdir, Create, Symlink}
use Rattle.mount_model.specs.declared.call.Op.TheVariants.{ReadLink, Unlink, Rmdir, Rename, OpenNode}
use Rattle.mount_model.specs.declared.call.Op.TheVariants.{Write, Close, DropCaches, MetaLoad, MetaStore}
use Rattle.mount_model.specs.declared.call.Op.TheVariants as op
use Rattle.mount_limits.specs.declared.TheConstants.{MAX_RAW_BYTES, MAX_WRITE_BYTES, MAX_CARRIED_BYTES}
use Rattle.mount_model.specs.declared.limits.TheConstants.{MAX_RECORD_NAME_BYTES}
use Rattle.mount_model.specs.Carried.{HasLength, IsPath, IsTarget, AreFewBytes}

-- a raw key has 1 to 128 bytes, a write at most 65,536; a record's name has 1 to 64, its bytes are at
-- most 9,000
abbrev pub OpFits : Op → Type 0
OpFits (AddKey raw) = HasLength raw MAX_RAW_BYTES
OpFits (RemoveKey id) = ⊤
OpFits (RemoveKeyAll id) = ⊤
OpFits (KeyStatus id) = ⊤
OpFits (SetPolicy path policy nonce) = IsPath path
OpFits (GetPolicy path) = IsPath path
OpFits (Mkdir path nonce) = IsPath path
OpFits (Create path nonce) = IsPath path
OpFits (Symlink path target nonce) = IsPath path × IsTarget target
OpFits (ReadLink path) = IsPath path
OpFits (Unlink path) = IsPath path
OpFits (Rmdir path) = IsPath path
OpFits (Rename old_path new_path) = IsPath old_path × IsPath new_path
OpFits (op.List path start) = IsPath path
OpFits (op.Stat path) = IsPath path
OpFits (OpenNode path) = IsPath path
OpFits (op.Read handle offset len) = ⊤
OpFits (Write handle offset bytes) = AreFewBytes bytes MAX_WRITE_BYTES
OpFits (Close handle) = ⊤
OpFits DropCaches = ⊤
OpFits (MetaLoad name) = HasLength name MAX_RECORD_NAME_BYTES
OpFits (MetaStore name expected bytes) =
    HasLength name MAX_RECORD_NAME_BYTES × (length bytes ≤ MAX_CARRIED_BYTES)

abbrev pub Fits : Call → Type 0
Fits call = OpFits call.op
