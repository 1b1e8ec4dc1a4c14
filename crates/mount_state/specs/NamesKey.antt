-- The key of a directory's names as a state has it, and the context that names it.
use Rattle.std.specs.Prelude.{◌≡◌, ℕ, List, length, Option, Some, option_map, if◌then◌else◌}
use Rattle.policy_ctx.specs.declared.policy.Context.{Context}
use Rattle.policy_ctx.specs.Context.{context_bytes}
use Rattle.fsc_keys.specs.Keys.{file_key_of, mode_key_of}
use Rattle.fsc_keys.specs.declared.file_keys.KeyKind.TheVariants.{Names}
use Rattle.fsc_keys.specs.declared.file_keys.FileKey.{FileKey}
use Rattle.number_map.specs.Numbered.{get}
use Rattle.key_ring.specs.Holding.{Holding, secret_of}
use Rattle.key_ring.specs.Modes.{Modes, mode_at}
use Rattle.inode_refs.specs.CacheMaps.{Cache, key_at}
use Rattle.disk_tree.specs.DiskTree.{Disk}
use Rattle.mount_state.specs.Contexts.{context_on_disk}

-- the key that is cached: under flag 8 that of the mode, else the directory's own
abbrev pub cached_key : Cache → Modes → ℕ → Context → Option FileKey
cached_key cache modes dir c =
    if c.policy.by_mode then option_map (λ mode. mode.key) (mode_at modes c.policy.id Names)
    else option_map (λ key. key.key) (key_at cache dir)

-- the key that a raw key gives
abbrev pub key_from : Context → List ℕ → FileKey
key_from c raw = if c.policy.by_mode then mode_key_of raw Names else file_key_of raw Names c.nonce

abbrev pub derived_file_key : Holding → Context → Option FileKey
derived_file_key ring c = option_map (key_from c) (secret_of ring c.policy.id)

-- if the stored context is one of an identifier of 16 bytes, it is this one
abbrev pub IsContextIn : Option (List ℕ) → Option Context → Type 0
IsContextIn stored read = (c : Context) → length c.policy.id.0 ≡ 16 → stored ≡ Some (context_bytes c)
    → read ≡ Some c

-- the same of the node of this number
abbrev pub IsContextOf : Disk → ℕ → Option Context → Type 0
IsContextOf disk node read = IsContextIn (context_on_disk (get disk node)) read
