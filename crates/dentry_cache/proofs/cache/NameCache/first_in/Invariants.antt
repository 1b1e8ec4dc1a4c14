-- What is left answers as all pairs do.
use Rattle.std.proofs.Common.{◌≡◌}
use Rattle.std.specs.List.{find}
use Rattle.dentry_cache.specs.Names.{is_in}
use Rattle.dentry_cache.proofs.cache.NameCache.first_in.Given as goal

abbrev pub invariant-loop-key : goal.invariant-loop-key
invariant-loop-key l = find (is_in l.dir) l.key-iterator ≡ find (is_in l.dir) l.self.pairs
