-- The groups of calls: on keys, on records, on open files, and on names.
use Rattle.std.specs.Prelude.{Bool, true, false}
use Rattle.mount_model.specs.declared.call.Op.{Op}
use Rattle.mount_model.specs.declared.call.Op.TheVariants.{AddKey, RemoveKey, RemoveKeyAll, KeyStatus}
use Rattle.mount_model.specs.declared.call.Op.TheVariants.{DropCaches, MetaLoad, MetaStore}
use Rattle.mount_model.specs.declared.call.Op.TheVariants.{Stat, GetPolicy, SetPolicy, ReadLink, Mkdir, Create}
use Rattle.mount_model.specs.declared.call.Op.TheVariants as op
use Rattle.mount_model.specs.declared.call.Op.TheVariants.{Symlink, Unlink, Rmdir, Rename, OpenNode, Read, Write, Close}

abbrev pub is_on_keys : Op → Bool
is_on_keys (AddKey raw) = true
is_on_keys (RemoveKey id) = true
is_on_keys (RemoveKeyAll id) = true
is_on_keys (KeyStatus id) = true
is_on_keys DropCaches = true
is_on_keys other = false

abbrev pub is_on_records : Op → Bool
is_on_records (MetaLoad name) = true
is_on_records (MetaStore name expected bytes) = true
is_on_records other = false

abbrev pub is_on_names : Op → Bool
is_on_names (Stat path) = true
is_on_names (op.List path start) = true
is_on_names (SetPolicy path policy nonce) = true
is_on_names (GetPolicy path) = true
is_on_names (ReadLink path) = true
is_on_names (Mkdir path nonce) = true
is_on_names (Create path nonce) = true
is_on_names (Symlink path target nonce) = true
is_on_names (Unlink path) = true
is_on_names (Rmdir path) = true
is_on_names (Rename old_path new_path) = true
is_on_names other = false

abbrev pub is_on_files : Op → Bool
is_on_files (OpenNode path) = true
is_on_files (Read handle offset len) = true
is_on_files (Write handle offset bytes) = true
is_on_files (Close handle) = true
is_on_files other = false
