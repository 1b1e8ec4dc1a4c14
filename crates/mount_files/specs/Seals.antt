-- What the contents of a file are sealed with, by the parts of a state.
use Rattle.std.specs.Prelude.{◌≡◌, ℕ, List, length, Option, Some, None, option_map, if◌then◌else◌}
use Rattle.policy_ctx.specs.declared.policy.Context.{Context}
use Rattle.policy_ctx.specs.Context.{context_bytes, context_fault}
use Rattle.fsc_keys.specs.Keys.{key_bytes}
use Rattle.fsc_keys.specs.declared.file_keys.KeyKind.TheVariants.{Contents}
use Rattle.fsc_keys.specs.declared.file_keys.FileKey.{FileKey}
use Rattle.number_map.specs.Numbered.{get}
use Rattle.key_ring.specs.Modes.{Modes, mode_at}
use Rattle.inode_refs.specs.CacheMaps.{Cache, key_at}
use Rattle.data_crypt.specs.Blocks.{Seal}
use Rattle.mount_model.specs.Sealed.{node_start}
use Rattle.mount_state.specs.Contexts.{context_on_disk}
use Rattle.mount_state.specs.declared.state.MountState.{MountState}

-- the key of the contents that is held: under flag 8 that of the mode, else the file's own
abbrev pub contents_key : Cache → Modes → ℕ → Context → Option FileKey
contents_key cache modes file c =
    if c.policy.by_mode then option_map (λ mode. mode.key) (mode_at modes c.policy.id Contents)
    else option_map (λ key. key.key) (key_at cache file)

abbrev pub held_key : MountState → ℕ → Context → Option FileKey
held_key s file c = contents_key s.inodes s.modes file c

-- the seal of a file of this context under the key
abbrev pub seal_with : ℕ → Context → FileKey → Seal
seal_with file c key = record { key = key_bytes key; start = node_start file c; unit = c.policy.unit }

-- The contents of the file are sealed so: under the key that is held for it by its context on the disk, and
-- not at all if it has none. What is stored there as a context is one.
pub record IsSealOf (s : MountState) (file : ℕ) (seal : Option Seal) : Type 0 where
  pub read : (bytes : List ℕ) → context_on_disk (get s.disk file) ≡ Some bytes → context_fault bytes ≡ None
  pub plain : context_on_disk (get s.disk file) ≡ None → seal ≡ None
  pub sealed : (c : Context) → length c.policy.id.0 ≡ 16
      → context_on_disk (get s.disk file) ≡ Some (context_bytes c)
      → seal ≡ option_map (seal_with file c) (held_key s file c)
