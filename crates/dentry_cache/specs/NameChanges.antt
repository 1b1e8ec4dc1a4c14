-- What each call leaves of the cached names.
use Rattle.std.specs.Prelude.{ℕ, ◌+◌, ◌-◌, ◌^◌, List, ◌∷◌, take, filter, nat_lt, if◌then◌else◌}
use Rattle.std.specs.Map.{remove_entry}
use Rattle.lru.specs.LruCache.{promoted}
use Rattle.dentry_cache.specs.declared.limits.TheConstants.{MAX_CACHED_NAMES}
use Rattle.dentry_cache.specs.Names.{NameList, with_pairs, key_of, is_name, is_elsewhere}

-- the name is moved to the front, if it is cached
abbrev pub with_used_name : NameList → ℕ → List ℕ → NameList
with_used_name names dir name = with_pairs names (promoted (is_name dir name) names.pairs)

-- the name resolves to this node, and is the first; of the others as many stay as the capacity allows
abbrev pub with_cached_name : NameList → ℕ → List ℕ → ℕ → NameList
with_cached_name names dir name number = with_pairs names
    ((key_of dir name, number) ∷ take (MAX_CACHED_NAMES - 1) (remove_entry (is_name dir name) names.pairs))

-- one more was not cached; the count ends at 2^64 - 1
abbrev pub one_more : ℕ → ℕ
one_more count = if nat_lt (count + 1) (2 ^ 64) then count + 1 else count

abbrev pub with_one_more_refused : NameList → NameList
with_one_more_refused names = record names { refused = one_more names.refused }

abbrev pub without_cached_name : NameList → ℕ → List ℕ → NameList
without_cached_name names dir name = with_pairs names (remove_entry (is_name dir name) names.pairs)

abbrev pub without_dir : NameList → ℕ → NameList
without_dir names dir = with_pairs names (filter (is_elsewhere dir) names.pairs)
