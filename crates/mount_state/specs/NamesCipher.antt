-- The cipher of a directory's names, and what a name resolves to under it.
use Rattle.std.specs.Prelude.{◌≡◌, ℕ, true, List, Option, Some, None, option_map, if◌then◌else◌}
use Rattle.std.specs.Prelude.{IfSome, option_and_then}
use Rattle.std.specs.Option.{option_or}
use Rattle.byte_words.specs.Bytes.{AreBytes}
use Rattle.policy_ctx.specs.declared.policy.Context.{Context}
use Rattle.fsc_keys.specs.Keys.{key_bytes}
use Rattle.fsc_keys.specs.declared.file_keys.KeyKind.TheVariants.{Names}
use Rattle.fsc_keys.specs.declared.file_keys.FileKey.{FileKey}
use Rattle.key_ring.specs.Holding.{Holding}
use Rattle.key_ring.specs.Modes.{Modes, mode_at}
use Rattle.inode_refs.specs.CacheMaps.{Cache}
use Rattle.inode_refs.specs.Ciphers.{names_key_at}
use Rattle.disk_tree.specs.Entries.{number_under}
use Rattle.disk_tree.specs.Nodes.{entries_of}
use Rattle.disk_tree.specs.declared.node.Body.{Body}
use Rattle.name_crypt.specs.StoredName.{stored_name}
use Rattle.mount_model.specs.Sealed.{node_start}
use Rattle.mount_state.specs.StoredKinds.{is_of_kind}
use Rattle.mount_state.specs.NamesKey.{derived_file_key}

-- the key of names that is cached for the node itself; none under flag 8
abbrev pub own_names_key : Cache → ℕ → Context → Option (List ℕ)
own_names_key cache node c = if c.policy.by_mode then None else names_key_at cache node

-- under flag 8 the key of the mode, if it is in use
abbrev pub used_mode_key : Modes → Context → Option FileKey
used_mode_key modes c =
    if c.policy.by_mode then option_map (λ mode. mode.key) (mode_at modes c.policy.id Names) else None

-- the key if it isn't cached for the node itself: that of the mode, otherwise the one that the raw key
-- gives
abbrev pub other_key : Holding → Modes → Context → Option FileKey
other_key ring modes c = option_or (used_mode_key modes c) (derived_file_key ring c)

-- if there is a key, and it is one of names, the cipher is the one under it
abbrev pub IsCipherUnder : Option FileKey → Option (List ℕ) → Type 0
IsCipherUnder None cipher = cipher ≡ None
IsCipherUnder (Some key) cipher = is_of_kind Names key ≡ true → cipher ≡ Some (key_bytes key)

-- the node that the stored form of the name under the cipher resolves to; none without a cipher
abbrev pub resolved_under : ℕ → Context → List ℕ → Body → Option (List ℕ) → Option ℕ
resolved_under dir c name body cipher = option_and_then
    (λ bytes. number_under (stored_name bytes (node_start dir c) c.policy.pad name) (entries_of body)) cipher

-- the name resolves to it under some such cipher, of bytes
abbrev pub ResolvesByOtherKey : Holding → Modes → ℕ → Context → List ℕ → Body → Option ℕ → Type 0
ResolvesByOtherKey ring modes dir c name body there =
    (cipher : Option (List ℕ)) × (IsCipherUnder (other_key ring modes c) cipher
    × (IfSome cipher AreBytes × (there ≡ resolved_under dir c name body cipher)))
