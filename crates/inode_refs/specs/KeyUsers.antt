-- The identifier for which a node counts as a user of its key, and how a pin that is added or removed
-- changes that.
use Rattle.std.specs.Prelude.{ℕ, ◌==◌, if◌then◌else◌, Option, None, is_some, option_map}
use Rattle.policy_ctx.specs.declared.policy.KeyId.{KeyId}
use Rattle.inode_refs.specs.declared.node_key.NodeKey.{NodeKey}
use Rattle.inode_refs.specs.CacheMaps.{Cache, key_at, pins_of}
use Rattle.inode_refs.specs.Evictions.{is_unpinned}

-- the identifier of the node's key
abbrev pub id_at : Cache → ℕ → Option KeyId
id_at cache node = option_map (λ key. key.id) (key_at cache node)

-- the identifier for which the node counts: that of its key, if it has pins
abbrev pub user_at : Cache → ℕ → Option KeyId
user_at cache node = if is_unpinned cache node then None else id_at cache node

-- the identifier for which the node counts from its next pin on, with the key that is cached by that pin;
-- none if it counts already
abbrev pub coming : Cache → ℕ → Option NodeKey → Option KeyId
coming cache node key = if is_some (user_at cache node) then None else
    if is_some (id_at cache node) then id_at cache node else option_map (λ k. k.id) key

-- the identifier for which the node counts no longer once a pin is removed
abbrev pub leaving : Cache → ℕ → Option KeyId
leaving cache node = if pins_of cache node == 1 then id_at cache node else None
