-- The stored form of a name, or a target, of a node that is keyed under this context.
use Rattle.std.specs.Prelude.{◌≡◌, ℕ, true, List, Option, Some}
use Rattle.byte_words.specs.Bytes.{AreBytes}
use Rattle.policy_ctx.specs.declared.policy.Context.{Context}
use Rattle.fsc_keys.specs.Keys.{key_bytes}
use Rattle.fsc_keys.specs.declared.file_keys.KeyKind.TheVariants.{Names}
use Rattle.plain_tree.specs.Nodes.{Name}
use Rattle.plain_tree.specs.NodesByNumber.{context_at}
use Rattle.mount_model.specs.PlainMount.{PlainMount}
use Rattle.mount_model.specs.Sealed.{node_key}
use Rattle.mount_model.specs.States.{is_keyed}
use Rattle.mount_state.specs.Stored.{stored_form}
use Rattle.mount_state.specs.Represents.{Represents}
use Rattle.mount_state.specs.declared.state.MountState.{MountState}
use Rattle.mount_names.specs.VisibleNames.{HasNames}

-- in every mount that the state represents, these bytes are the stored form
abbrev pub SealsAs : MountState → ℕ → Context → Name → Option (List ℕ) → Type 0
SealsAs s n c name stored = (m : PlainMount) → Represents s m → HasNames m n
    → context_at m.nodes n ≡ Some c → is_keyed m n ≡ true → stored ≡ Some (stored_form m.raws n (Some c) name)

-- in every mount that the state represents, the key of these names is of bytes
abbrev pub SealsByBytes : MountState → ℕ → Context → Type 0
SealsByBytes s n c = (m : PlainMount) → Represents s m → HasNames m n
    → context_at m.nodes n ≡ Some c → is_keyed m n ≡ true → AreBytes (key_bytes (node_key m.raws c Names))
