-- That the named parts of the cache are all that it has of names: with a further part, this would not hold.
use Rattle.std.specs.Prelude.{◌≡◌}
use Rattle.dentry_cache.specs.declared.cache.NameCache.TheInside as cache

abbrev pub NameCachesAreWhatIsSeen : Type 0
NameCachesAreWhatIsSeen = (a b : cache.Inside) → a.pairs ≡ b.pairs → a.refused ≡ b.refused → a ≡ b
