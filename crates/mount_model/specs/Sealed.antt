-- What keys do to names: under which key and from which start a node's names are stored, and by which
-- text a name is shown while the key is absent.
use Rattle.std.specs.Prelude.{ℕ, ◌*◌, ◌^◌, List, [], if◌then◌else◌}
use Rattle.std.specs.Option.{unwrap_or}
use Rattle.policy_ctx.specs.declared.policy.Context.{Context}
use Rattle.fsc_keys.specs.declared.file_keys.KeyKind.{KeyKind}
use Rattle.fsc_keys.specs.declared.file_keys.KeyKind.TheVariants.{Names}
use Rattle.fsc_keys.specs.declared.file_keys.FileKey.{FileKey}
use Rattle.fsc_keys.specs.Keys.{file_key_of, mode_key_of, key_bytes}
use Rattle.name_crypt.specs.StoredName.{stored_name}
use Rattle.name_crypt.specs.NoKeyText.{nokey_text_of}
use Rattle.plain_tree.specs.Nodes.{Name}
use Rattle.plain_tree.specs.Seals.{Texts}
use Rattle.mount_model.specs.PlainMount.{Raws, raw_in}

-- the raw key that a node's own keys are derived from; empty if it was never added
abbrev pub raw_for : Raws → Context → List ℕ
raw_for raws c = unwrap_or (raw_in raws c.policy.id) []

-- the key of a node of this context: by its nonce, or under flag 8 the one of all nodes of its policy
abbrev pub node_key : Raws → Context → KeyKind → FileKey
node_key raws c kind =
    if c.policy.by_mode then mode_key_of (raw_for raws c) kind else file_key_of (raw_for raws c) kind c.nonce

-- the unit number from which node n counts: under flag 8 the upper half of an index is the node's number
abbrev pub node_start : ℕ → Context → ℕ
node_start n c = if c.policy.by_mode then n * 2 ^ 32 else 0

-- a name of the directory n, or the target of the symlink n, as it is stored
unfoldable pub sealed_name : Raws → ℕ → Context → Name → List ℕ
sealed_name raws n c name =
    stored_name (key_bytes (node_key raws c Names)) (node_start n c) c.policy.pad name

-- the text that is shown in its place while the key is absent
unfoldable pub texts : Raws → Texts
texts raws n c name = nokey_text_of (sealed_name raws n c name)
