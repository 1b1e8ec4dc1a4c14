-- The visible parts of the cache and of a cached key are all that there is of keys: with any other part
-- the laws here would not hold.
use Rattle.std.specs.Prelude.{◌≡◌}
use Rattle.inode_refs.specs.CacheRules.{IsCipherIn}
use Rattle.inode_refs.specs.declared.cache.InodeCache.TheInside as cache
use Rattle.inode_refs.specs.declared.cached_key.CachedKey.TheInside as cached

abbrev pub CachesAreTheirParts : Type 0
CachesAreTheirParts =
    (a b : cache.Inside) → a.keys ≡ b.keys → a.pins ≡ b.pins → a.users ≡ b.users → a ≡ b

-- two that are seen as one key are one
abbrev pub CachedKeysAreTheirKeys : Type 0
CachedKeysAreTheirKeys = (a b : cached.Inside) → IsCipherIn a.cipher a.key.key → IsCipherIn b.cipher b.key.key
    → a.key ≡ b.key → a ≡ b
