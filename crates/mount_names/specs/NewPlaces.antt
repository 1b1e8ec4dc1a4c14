-- The place of the name that a creation makes.
use Rattle.std.specs.Prelude.{◌≡◌, ℕ, true, false, Ok, Option, Some, is_some}
use Rattle.byte_words.specs.Bytes.{AreBytes}
use Rattle.policy_ctx.specs.declared.policy.Context.{Context}
use Rattle.fsc_keys.specs.Keys.{key_bytes}
use Rattle.fsc_keys.specs.declared.file_keys.KeyKind.TheVariants.{Names}
use Rattle.plain_tree.specs.Nodes.{Name}
use Rattle.plain_tree.specs.NodesByNumber.{context_at, is_dir_at, entry}
use Rattle.mount_model.specs.PlainMount.{PlainMount}
use Rattle.mount_model.specs.Sealed.{node_key}
use Rattle.mount_model.specs.States.{is_keyed}
use Rattle.mount_model.specs.NameAnswers.{is_full}
use Rattle.mount_model.specs.EncryptedNames.{lacks_key, clashes}
use Rattle.mount_model.specs.Walk.{PathParts}
use Rattle.mount_model.specs.EntryPaths.{is_root, last_part, parent}
use Rattle.mount_model.specs.SoundNodes.{IsName}
use Rattle.mount_state.specs.Stored.{stored_form}
use Rattle.mount_state.specs.Represents.{Represents}
use Rattle.mount_state.specs.declared.state.MountState.{MountState}
use Rattle.mount_names.specs.FoundEntries.{form_in}
use Rattle.mount_names.specs.Places.{Place}

-- in the mount the place's directory can get the name, and the place has its stored form
pub record IsPlaceOf (m : PlainMount) (name : Name) (place : Place) : Type 0 where
  pub context : place.context ≡ context_at m.nodes place.dir
  pub stored : place.stored ≡ stored_form m.raws place.dir (context_at m.nodes place.dir) name
  pub keyed : lacks_key m (context_at m.nodes place.dir) ≡ false
  pub free : is_some (entry m.nodes place.dir name) ≡ false
  pub apart : clashes m place.dir name ≡ false
  pub room : is_full m place.dir ≡ false

-- under its policy the names of the directory are encrypted by a key of bytes
abbrev pub HasByteKey : PlainMount → ℕ → Type 0
HasByteKey m n = (c : Context) → context_at m.nodes n ≡ Some c
    → AreBytes (key_bytes (node_key m.raws c Names))

-- the directory is keyed and has no such name, and the place has the name's stored form
pub record IsNewName (m : PlainMount) (d : ℕ) (name : Name) (place : Place) : Type 0 where
  pub dir : place.dir ≡ d
  pub context : place.context ≡ context_at m.nodes d
  pub stored : place.stored ≡ form_in m d name
  pub keyed : is_keyed m d ≡ true
  pub free : is_some (entry m.nodes d name) ≡ false
  pub key : HasByteKey m d

-- a name is asked for in a directory of the mount that is keyed and has this context
pub record IsAskedIn (s : MountState) (m : PlainMount) (d : ℕ) (held : Option Context)
    (name : Name) : Type 0 where
  pub represents : Represents s m
  pub is_dir : is_dir_at m.nodes d ≡ true
  pub named : IsName name
  pub keyed : is_keyed m d ≡ true
  pub context : held ≡ context_at m.nodes d

-- the place is the one in which the path's last part can be made
pub record IsPlaceAt (m : PlainMount) (path : PathParts) (place : Place) : Type 0 where
  pub named : is_root path ≡ false
  pub led : parent m path ≡ Ok place.dir
  pub there : IsPlaceOf m (last_part path) place
