-- The nodes without pins, the keys that are left after an eviction, and how many nodes with pins have a
-- key.
use Rattle.std.specs.Prelude.{ℕ, Bool, false, not, ◌&&◌, ◌==◌}
use Rattle.std.specs.Option.{option_map_or}
use Rattle.std.specs.FinMap as map
use Rattle.policy_ctx.specs.declared.policy.KeyId.{KeyId}
use Rattle.policy_ctx.specs.KeyIds.{same_id}
use Rattle.inode_refs.specs.CacheMaps.{KeyMap, Cache, key_at, pins_of}

-- whether the node has no pins
abbrev pub is_unpinned : Cache → ℕ → Bool
is_unpinned cache node = pins_of cache node == 0

-- whether the node's key was derived from the master key
abbrev pub has_id : Cache → KeyId → ℕ → Bool
has_id cache id node = option_map_or (λ key. same_id key.id id) (key_at cache node) false

-- the keys that are left after those derived from the master key are removed from the nodes without pins,
-- and after all keys are removed from them
abbrev pub without_derived_keys : Cache → KeyId → KeyMap
without_derived_keys cache id
    = map.retain_keys cache.keys (λ node. not (is_unpinned cache node && has_id cache id node))

abbrev pub without_unpinned_keys : Cache → KeyMap
without_unpinned_keys cache = map.retain_keys cache.keys (λ node. not (is_unpinned cache node))

-- how many nodes with pins have a key that was derived from the master key
abbrev pub users_of : Cache → KeyId → ℕ
users_of cache id =
    map.len (map.retain_keys cache.keys (λ node. not (is_unpinned cache node) && has_id cache id node))
