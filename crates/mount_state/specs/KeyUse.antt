-- What a state holds of a master key, and what its status is.
use Rattle.std.specs.Prelude.{◌≡◌, ℕ, Bool, true, false, List, Contains, Option, Some, None, ◌||◌}
use Rattle.std.specs.List.{list_any}
use Rattle.policy_ctx.specs.declared.policy.KeyId.{KeyId}
use Rattle.policy_ctx.specs.KeyIds.{same_id}
use Rattle.fsc_keys.specs.declared.file_keys.KeyKind.{KeyKind}
use Rattle.number_map.specs.Numbered.{get}
use Rattle.user_claims.specs.Claims.{ClaimSet}
use Rattle.user_claims.specs.ClaimCounts.{is_present}
use Rattle.key_ring.specs.Holding.{Holding, secret_of}
use Rattle.key_ring.specs.Modes.{Modes, mode_at}
use Rattle.inode_refs.specs.CacheMaps.{Cache, key_at}
use Rattle.inode_refs.specs.declared.node_key.NodeKey.{NodeKey}
use Rattle.dentry_cache.specs.Names.{Pair, NameList}
use Rattle.policy_ctx.specs.Context.{id_in}
use Rattle.disk_tree.specs.DiskTree.{Disk}
use Rattle.mount_model.specs.PlainMount.{HandleList}
use Rattle.mount_model.specs.OpenHandles.{has_handle}
use Rattle.mount_model.specs.declared.reply.KeyState.{KeyState}
use Rattle.mount_model.specs.States.{key_state_by}
use Rattle.mount_state.specs.Contexts.{names_key_on_disk, context_on_disk}

-- neither the key's secret is held, nor a file key or a mode key that was derived from it, nor a plain name
-- of a directory whose context names it
pub record HoldsNothing (disk : Disk) (ring : Holding) (cache : Cache) (modes : Modes) (names : NameList)
    (id : KeyId) : Type 0 where
  pub secret : secret_of ring id ≡ None
  pub file_keys : (node : ℕ) (key : NodeKey) → key_at cache node ≡ Some key → same_id key.id id ≡ false
  pub mode_keys : (kind : KeyKind) → mode_at modes id kind ≡ None
  pub plain_names : (pair : Pair) → Contains names.pairs pair → names_key_on_disk disk pair.0.dir id ≡ false

-- some handle is on a node whose context names the key
abbrev pub is_in_use : Disk → HandleList → KeyId → Bool
is_in_use disk live id = list_any (λ h. names_key_on_disk disk h.node id) live

-- Present if some user has a claim, otherwise Incomplete if a handle needs the key
abbrev pub key_state : Disk → ClaimSet → HandleList → KeyId → KeyState
key_state disk claims live id = key_state_by claims (is_in_use disk live id) id

abbrev pub is_unlocked_under : ClaimSet → HandleList → ℕ → Option (List ℕ) → Bool
is_unlocked_under claims live node None = true
is_unlocked_under claims live node (Some context) = is_present claims (id_in context) || has_handle live node

-- the node has no context, or the key that it names is present, or a handle is on this very node
abbrev pub is_unlocked : Disk → ClaimSet → HandleList → ℕ → Bool
is_unlocked disk claims live node = is_unlocked_under claims live node (context_on_disk (get disk node))
