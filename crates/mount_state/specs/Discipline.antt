-- What must be forgotten: what of a master key the state may hold, and what open handles need of it. The
-- ring and the mode keys ensure on their own that a secret is held exactly when there is a claim, and a
-- mode key exactly when it has users (HoldsClaimedSecrets, AreUsed).
use Rattle.std.specs.Prelude.{◌≡◌, ℕ, ◌≤◌, true, length, Some, is_some, ◌||◌}
use Rattle.policy_ctx.specs.declared.policy.KeyId.{KeyId}
use Rattle.fsc_keys.specs.declared.file_keys.KeyKind.{KeyKind}
use Rattle.number_map.specs.Numbered.{get}
use Rattle.user_claims.specs.Claims.{ClaimSet}
use Rattle.user_claims.specs.ClaimCounts.{is_present}
use Rattle.key_ring.specs.Modes.{Modes, of_kind, mode_at}
use Rattle.key_ring.specs.ModeUsers.{users_in}
use Rattle.key_ring.specs.declared.mode_key.ModeKey.{ModeKey}
use Rattle.inode_refs.specs.CacheMaps.{Cache, key_at, pins_of}
use Rattle.inode_refs.specs.declared.node_key.NodeKey.{NodeKey}
use Rattle.disk_tree.specs.DiskTree.{Disk}
use Rattle.mount_model.specs.PlainMount.{HandleList}
use Rattle.mount_model.specs.OpenHandles.{has_handle}
use Rattle.mount_model.specs.declared.limits.TheConstants.{MAX_HANDLES}
use Rattle.mount_state.specs.Handles.{handles_on, users}
use Rattle.mount_state.specs.Contexts.{uses_own, uses_mode}
use Rattle.mount_state.specs.StoredKinds.{kind_on_disk, is_of_kind}

-- ---- file keys

pub record FileKeysForget (disk : Disk) (claims : ClaimSet) (cache : Cache) (live : HandleList) : Type 0 where
  -- a file key is cached only under the master key that its node's context names, and only on a node
  -- with a key of its own
  pub named : (node : ℕ) (key : NodeKey) → key_at cache node ≡ Some key → uses_own disk node key.id ≡ true
  -- it is a contents key on a file, and a names key on any other node
  pub kind : (node : ℕ) (key : NodeKey) → key_at cache node ≡ Some key
      → is_of_kind (kind_on_disk (get disk node)) key.key ≡ true
  -- a node with a handle has its file key cached
  pub kept : (node : ℕ) (id : KeyId) → uses_own disk node id ≡ true → has_handle live node ≡ true
      → is_some (key_at cache node) ≡ true
  -- without a claim on the master key, a file key is cached only if the node has a handle
  pub forgotten : (node : ℕ) (key : NodeKey) → key_at cache node ≡ Some key
      → (is_present claims key.id || has_handle live node) ≡ true

-- ---- mode keys

pub record ModeKeysForget (disk : Disk) (modes : Modes) (live : HandleList) : Type 0 where
  -- the users of a mode key are the handles on the nodes that use it
  pub counted : (id : KeyId) (kind : KeyKind)
      → users_in (of_kind modes kind) id ≡ users (uses_mode disk id kind) live
  -- and it is a key of its kind
  pub kind : (id : KeyId) (kind : KeyKind) (mode : ModeKey) → mode_at modes id kind ≡ Some mode
      → is_of_kind kind mode.key ≡ true

-- ---- pins

pub record PinsAreHandles (cache : Cache) (live : HandleList) : Type 0 where
  -- a node is pinned once for each handle on it
  pub pinned : (node : ℕ) → pins_of cache node ≡ handles_on live node
  pub few : length live ≤ MAX_HANDLES

-- ---- the whole

pub record Forgets (disk : Disk) (claims : ClaimSet) (cache : Cache) (modes : Modes)
    (live : HandleList) : Type 0 where
  pub file_keys : FileKeysForget disk claims cache live
  pub mode_keys : ModeKeysForget disk modes live
  pub pins : PinsAreHandles cache live
