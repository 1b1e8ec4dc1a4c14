-- What the contexts on the disk name: a master key, and whether a node has a key of its own.
use Rattle.std.specs.Prelude.{ℕ, Bool, false, List, Option, Some, None, not, ◌&&◌}
use Rattle.policy_ctx.specs.declared.policy.KeyId.{KeyId}
use Rattle.policy_ctx.specs.KeyIds.{same_id}
use Rattle.policy_ctx.specs.Context.{id_in, is_by_mode_in}
use Rattle.fsc_keys.specs.declared.file_keys.KeyKind.{KeyKind}
use Rattle.number_map.specs.Numbered.{get}
use Rattle.disk_tree.specs.DiskTree.{Disk}
use Rattle.disk_tree.specs.declared.node.StoredNode.{StoredNode}
use Rattle.mount_state.specs.StoredKinds.{kind_on_disk, same_kind}

-- the bytes of the node's context; none if there is no node
abbrev pub context_on_disk : Option StoredNode → Option (List ℕ)
context_on_disk None = None
context_on_disk (Some v) = v.context

-- the context names the master key; so it does without flag 8, and with it
abbrev pub names_id : KeyId → Option (List ℕ) → Bool
names_id id None = false
names_id id (Some context) = same_id (id_in context) id

abbrev pub has_own : KeyId → Option (List ℕ) → Bool
has_own id None = false
has_own id (Some context) = same_id (id_in context) id && not (is_by_mode_in context)

abbrev pub has_shared : KeyId → Option (List ℕ) → Bool
has_shared id None = false
has_shared id (Some context) = same_id (id_in context) id && is_by_mode_in context

-- the node's context names the key
abbrev pub names_key_on_disk : Disk → ℕ → KeyId → Bool
names_key_on_disk disk node id = names_id id (context_on_disk (get disk node))

-- it does, and the node has a file key of its own
abbrev pub uses_own : Disk → ℕ → KeyId → Bool
uses_own disk node id = has_own id (context_on_disk (get disk node))

-- it does, and the node uses the mode key of this kind
abbrev pub uses_mode : Disk → KeyId → KeyKind → ℕ → Bool
uses_mode disk id kind node =
    has_shared id (context_on_disk (get disk node)) && same_kind kind (kind_on_disk (get disk node))
