-- What is cached, in whatever order: that it is no more than before, and that a name, or each name of a
-- directory, is not.
use Rattle.std.specs.Prelude.{◌≡◌, ℕ, false, List, Contains, ◌⊎◌}
use Rattle.dentry_cache.specs.Names.{Pair, NameList, is_name, is_in}

-- no name is cached that wasn't, and none resolves to another node
abbrev pub HoldsNoMore : NameList → NameList → Type 0
HoldsNoMore old new = (pair : Pair) → Contains new.pairs pair → Contains old.pairs pair

-- the same, but for this one
abbrev pub HoldsBeside : NameList → NameList → Pair → Type 0
HoldsBeside old new more = (pair : Pair) → Contains new.pairs pair → Contains old.pairs pair ⊎ (pair ≡ more)

abbrev pub HoldsNone : NameList → ℕ → List ℕ → Type 0
HoldsNone names dir name = (pair : Pair) → Contains names.pairs pair → is_name dir name pair.0 ≡ false

abbrev pub HoldsNoneIn : NameList → ℕ → Type 0
HoldsNoneIn names dir = (pair : Pair) → Contains names.pairs pair → is_in dir pair ≡ false
