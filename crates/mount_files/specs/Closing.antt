-- What is removed when a handle is closed.
use Rattle.std.specs.Prelude.{ℕ, Bool, true, false, not, ◌&&◌, ◌||◌, ◌==◌, List, Option, Some, None, if◌then◌else◌}
use Rattle.number_map.specs.Numbered.{get, remove}
use Rattle.user_claims.specs.Claims.{ClaimSet}
use Rattle.user_claims.specs.ClaimCounts.{is_present}
use Rattle.policy_ctx.specs.Context.{id_in, is_by_mode_in}
use Rattle.fsc_keys.specs.declared.file_keys.KeyKind.{KeyKind}
use Rattle.key_ring.specs.Modes.{Modes, of_kind, with_kind}
use Rattle.key_ring.specs.ModeUsers.{without_user}
use Rattle.inode_refs.specs.CacheMaps.{KeyMap}
use Rattle.disk_tree.specs.DiskTree.{Disk}
use Rattle.disk_tree.specs.declared.node.StoredNode.{StoredNode}
use Rattle.dentry_cache.specs.Names.{NameList}
use Rattle.dentry_cache.specs.NameChanges.{without_dir}
use Rattle.mount_state.specs.CachedNames.{is_dir_on_disk}
use Rattle.mount_state.specs.Contexts.{context_on_disk}
use Rattle.mount_state.specs.StoredKinds.{kind_on_disk}

abbrev pub is_named_in : Option StoredNode → Bool
is_named_in None = false
is_named_in (Some v) = v.named

-- the root, and a node with a name, stay without a handle
abbrev pub is_lasting : Disk → ℕ → Bool
is_lasting disk node = (node == 0) || is_named_in (get disk node)

-- the node stays if it has a handle, or stays without one
abbrev pub disk_after_close : Disk → Bool → ℕ → Disk
disk_after_close disk held node = if held || is_lasting disk node then disk else remove disk node

-- some user has a claim on the master key that the context names; it holds too if there is no context
abbrev pub is_key_needed : ClaimSet → Option (List ℕ) → Bool
is_key_needed claims None = true
is_key_needed claims (Some context) = is_present claims (id_in context)

-- the node's key stays if the node has a handle, or if the node stays without one and its key is required
abbrev pub keys_after_close : Disk → ClaimSet → KeyMap → Bool → ℕ → KeyMap
keys_after_close disk claims keys held node =
    if held || (is_lasting disk node && is_key_needed claims (context_on_disk (get disk node))) then keys
    else remove keys node

-- a directory's names stay if its key would
abbrev pub names_after_close : Disk → ClaimSet → NameList → Bool → ℕ → NameList
names_after_close disk claims names held node =
    if held || (is_lasting disk node && is_key_needed claims (context_on_disk (get disk node)))
    || not (is_dir_on_disk disk node) then names
    else without_dir names node

-- the mode key that the node uses has one user less
abbrev pub modes_left_by : Modes → KeyKind → Option (List ℕ) → Modes
modes_left_by modes kind None = modes
modes_left_by modes kind (Some context) =
    if is_by_mode_in context
    then with_kind modes kind (without_user (of_kind modes kind) (id_in context))
    else modes

abbrev pub modes_after_close : Disk → Modes → ℕ → Modes
modes_after_close disk modes node =
    modes_left_by modes (kind_on_disk (get disk node)) (context_on_disk (get disk node))
