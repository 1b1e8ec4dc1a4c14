-- The calls that bring nonces to a mount's nodes.
use Rattle.std.specs.Prelude.{⊤, All}
use Rattle.byte_words.specs.Bytes.{AreBytesOfLength}
use Rattle.mount_model.specs.declared.call.Op.{Op}
use Rattle.mount_model.specs.declared.call.Op.TheVariants as op
use Rattle.mount_model.specs.History.{History, mount_after}
use Rattle.listing_laws.specs.Laws.{HasNonces}

-- the nonce of an operation that brings one is 16 bytes
abbrev pub CarriesNonce : Op → Type 0
CarriesNonce (op.AddKey raw) = ⊤
CarriesNonce (op.RemoveKey id) = ⊤
CarriesNonce (op.RemoveKeyAll id) = ⊤
CarriesNonce (op.KeyStatus id) = ⊤
CarriesNonce (op.SetPolicy path policy nonce) = AreBytesOfLength 16 nonce
CarriesNonce (op.GetPolicy path) = ⊤
CarriesNonce (op.Mkdir path nonce) = AreBytesOfLength 16 nonce
CarriesNonce (op.Create path nonce) = AreBytesOfLength 16 nonce
CarriesNonce (op.Symlink path target nonce) = AreBytesOfLength 16 nonce
CarriesNonce (op.ReadLink path) = ⊤
CarriesNonce (op.Unlink path) = ⊤
CarriesNonce (op.Rmdir path) = ⊤
CarriesNonce (op.Rename old_path new_path) = ⊤
CarriesNonce (op.List path start) = ⊤
CarriesNonce (op.Stat path) = ⊤
CarriesNonce (op.OpenNode path) = ⊤
CarriesNonce (op.Read handle offset len) = ⊤
CarriesNonce (op.Write handle offset bytes) = ⊤
CarriesNonce (op.Close handle) = ⊤
CarriesNonce op.DropCaches = ⊤
CarriesNonce (op.MetaLoad name) = ⊤
CarriesNonce (op.MetaStore name expected bytes) = ⊤

-- each nonce of the mount that a history reaches is 16 bytes, if those of its calls are
abbrev pub MountsHaveNonces : Type 0
MountsHaveNonces = (history : History) → All (λ e. CarriesNonce e.call.op) history
    → HasNonces (mount_after history).nodes
