-- Calls whose bytes were wiped: as many zeros are in their place.
use Rattle.std.specs.Prelude.{ℕ, List, length, replicate}
use Rattle.mount_model.specs.declared.call.Call.{Call}
use Rattle.mount_model.specs.declared.call.Op.{Op}
use Rattle.mount_model.specs.declared.call.Op.TheVariants as op

abbrev pub zeros : List ℕ → List ℕ
zeros bytes = replicate (length bytes) 0

-- a raw key, a symlink's target, written bytes, and the bytes of a record
abbrev pub wiped_bytes : Op → Op
wiped_bytes (op.AddKey raw) = op.AddKey (zeros raw)
wiped_bytes (op.Symlink path target nonce) = op.Symlink path (zeros target) nonce
wiped_bytes (op.Write handle offset bytes) = op.Write handle offset (zeros bytes)
wiped_bytes (op.MetaStore name expected bytes) = op.MetaStore name expected (zeros bytes)
wiped_bytes other = other

-- the nonce of a node that is made, or of a directory that is encrypted
abbrev pub wiped_nonce : Op → Op
wiped_nonce (op.SetPolicy path policy nonce) = op.SetPolicy path policy (zeros nonce)
wiped_nonce (op.Mkdir path nonce) = op.Mkdir path (zeros nonce)
wiped_nonce (op.Create path nonce) = op.Create path (zeros nonce)
wiped_nonce (op.Symlink path target nonce) = op.Symlink path target (zeros nonce)
wiped_nonce other = other

abbrev pub wiped_call : Call → Call
wiped_call call = record { uid = call.uid; op = wiped_nonce (wiped_bytes call.op) }
