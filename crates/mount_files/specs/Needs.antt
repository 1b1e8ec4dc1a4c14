-- What a handle on a node needs of a master key, in the state and in the mount that it represents.
use Rattle.std.specs.Prelude.{◌≡◌, ℕ, true, false, ◌&&◌, [], Option, Some, is_some, IfSome}
use Rattle.std.specs.Option.{unwrap_or}
use Rattle.policy_ctx.specs.declared.policy.KeyId.{KeyId}
use Rattle.policy_ctx.specs.declared.policy.Context.{Context}
use Rattle.policy_ctx.specs.KeyIds.{same_id}
use Rattle.fsc_keys.specs.Keys.{mode_key_of}
use Rattle.fsc_keys.specs.declared.file_keys.FileKey.{FileKey}
use Rattle.fsc_keys.specs.declared.file_keys.KeyKind.{KeyKind}
use Rattle.number_map.specs.Numbered.{get}
use Rattle.inode_refs.specs.CacheMaps.{Cache, with_pinned_key}
use Rattle.inode_refs.specs.declared.node_key.NodeKey.{NodeKey}
use Rattle.plain_tree.specs.NodesByNumber.{context_at}
use Rattle.disk_tree.specs.DiskTree.{Disk}
use Rattle.mount_model.specs.PlainMount.{PlainMount, raw_in}
use Rattle.mount_model.specs.Sealed.{node_key}
use Rattle.mount_state.specs.Contexts.{uses_own, uses_mode}
use Rattle.mount_state.specs.StoredKinds.{kind_on_disk, is_of_kind, same_kind}
use Rattle.mount_state.specs.CachedKeys.{plain_kind}
use Rattle.mount_files.specs.declared.need.Need.{Need}
use Rattle.mount_files.specs.declared.need.Need.TheVariants.{Own, Shared}

-- a file key of this node
abbrev pub IsKeyFor : Disk → ℕ → NodeKey → Type 0
IsKeyFor disk node key = (uses_own disk node key.id ≡ true)
    × (is_of_kind (kind_on_disk (get disk node)) key.key ≡ true)

-- with this key, if there is one, the node has its own key cached if it has one; it uses no mode key
pub record IsOwnNeed (disk : Disk) (cache : Cache) (node : ℕ) (key : Option NodeKey) : Type 0 where
  pub fits : IfSome key (IsKeyFor disk node)
  pub cached : (id : KeyId) → uses_own disk node id ≡ true
      → is_some (get (with_pinned_key cache.keys node key) node) ≡ true
  pub unshared : (id : KeyId) (kind : KeyKind) → uses_mode disk id kind node ≡ false

-- this is the mode key that the node uses
pub record IsSharedNeed (disk : Disk) (node : ℕ) (id : KeyId) (kind : KeyKind) (key : FileKey) : Type 0 where
  pub uses : (q : KeyId) (k : KeyKind) → uses_mode disk q k node ≡ (same_id id q && same_kind k kind)
  pub none : (q : KeyId) → uses_own disk node q ≡ false
  pub fits : is_of_kind kind key ≡ true

abbrev pub IsNeedOf : Disk → Cache → ℕ → Need → Type 0
IsNeedOf disk cache node (Own key) = IsOwnNeed disk cache node key
IsNeedOf disk cache node (Shared id kind key) = IsSharedNeed disk node id kind key

-- the same key is the node's in the mount
abbrev pub IsNeedIn : PlainMount → ℕ → Need → Type 0
IsNeedIn m node (Own key) = IfSome key (λ k. (c : Context) → context_at m.nodes node ≡ Some c
    → k.key ≡ node_key m.raws c (plain_kind (get m.nodes node)))
IsNeedIn m node (Shared id kind key) = key ≡ mode_key_of (unwrap_or (raw_in m.raws id) []) kind
