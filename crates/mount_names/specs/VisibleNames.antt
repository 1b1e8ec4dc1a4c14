-- How stored names and targets are read, and when a name must be encrypted to be found.
use Rattle.std.specs.Prelude.{◌≡◌, ◌≢◌, ◌≤◌, ℕ, Bool, true, List, [], length, Option, Some, is_some, ◌&&◌}
use Rattle.byte_words.specs.Bytes.{AreBytes}
use Rattle.policy_ctx.specs.declared.policy.Context.{Context}
use Rattle.fsc_keys.specs.declared.file_keys.KeyKind.TheVariants.{Names}
use Rattle.name_crypt.specs.declared.cipher.NameCipher.{NameCipher}
use Rattle.name_crypt.specs.declared.limits.TheConstants.{MAX_NAME_BYTES}
use Rattle.name_crypt.specs.Plain.{IsPlain, IsStored}
use Rattle.name_crypt.specs.StoredName.{plain_name}
use Rattle.name_crypt.specs.NoKeyText.{nokey_text_of}
use Rattle.number_map.specs.Numbered.{get}
use Rattle.plain_tree.specs.Nodes.{Name}
use Rattle.plain_tree.specs.NodesByNumber.{context_at}
use Rattle.mount_model.specs.PlainMount.{PlainMount}
use Rattle.mount_model.specs.States.{is_keyed, shown}
use Rattle.mount_state.specs.Contexts.{context_on_disk}
use Rattle.mount_state.specs.KeyUse as held
use Rattle.mount_state.specs.Stored.{stored_form}
use Rattle.mount_state.specs.Represents.{Represents}
use Rattle.mount_state.specs.CachedKeys.{plain_kind}
use Rattle.mount_state.specs.declared.state.MountState.{MountState}
use Rattle.mount_names.specs.declared.reading.Reading.{Reading}
use Rattle.mount_names.specs.declared.reading.Reading.TheVariants.{Plain, Keyed, Locked}
use Rattle.mount_names.specs.NameCiphers.{names_cipher}

-- read so, the visible name of the stored bytes is the name
abbrev pub ShowsAs : Reading → List ℕ → Name → Type 0
ShowsAs Plain stored name = (name ≡ stored) × (length stored ≤ MAX_NAME_BYTES)
ShowsAs (Keyed cipher) stored name = (name ≡ plain_name cipher.key cipher.start stored) × (name ≢ [])
    × IsStored stored
ShowsAs Locked stored name = (name ≡ nokey_text_of stored) × IsStored stored

-- a directory or a symlink of the mount: a node whose names or whose target are encrypted
abbrev pub HasNames : PlainMount → ℕ → Type 0
HasNames m n = plain_kind (get m.nodes n) ≡ Names

-- in every mount that the state represents, the stored form of each name or target has the visible name of
-- the mount
abbrev pub ReadsAs : MountState → ℕ → Reading → Type 0
ReadsAs s n reading = (m : PlainMount) (name : Name) → Represents s m → HasNames m n → IsPlain name
    → AreBytes name
    → ShowsAs reading (stored_form m.raws n (context_at m.nodes n) name) (shown m n name)

-- in every mount that the state represents, it is the cipher of the keyed node's names
abbrev pub IsCipherOf : MountState → ℕ → Context → Option NameCipher → Type 0
IsCipherOf s n c cipher = (m : PlainMount) → Represents s m → HasNames m n
    → context_at m.nodes n ≡ Some c → is_keyed m n ≡ true
    → cipher ≡ Some (names_cipher m.raws n c)

-- the directory has a policy and is keyed: then a name is encrypted to be found
abbrev pub encrypts_names : MountState → ℕ → Bool
encrypts_names s dir =
    is_some (context_on_disk (get s.disk dir)) && held.is_unlocked s.disk s.ring.claims s.handles.live dir
