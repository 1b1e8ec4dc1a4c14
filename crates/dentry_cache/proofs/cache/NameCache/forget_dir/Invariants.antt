use Rattle.std.proofs.Common.{◌≡◌, length}
use Rattle.std.specs.List.{filter}
use Rattle.dentry_cache.specs.Names.{is_elsewhere}
use Rattle.dentry_cache.proofs.cache.NameCache.forget_dir.Given as goal

abbrev pub invariant-loop-key : goal.invariant-loop-key
invariant-loop-key l = record {
  same : filter (is_elsewhere l.dir) l.self.pairs ≡ filter (is_elsewhere l.dir) l.fn.self.pairs;
  refused : l.self.refused ≡ l.fn.self.refused;
}

abbrev pub decreases-loop-key : goal.decreases-loop-key
decreases-loop-key l = length l.self.pairs
