use Rattle.inode_refs.proofs.UserLemmas.{first_counted}
use Rattle.inode_refs.proofs.PinLemmas.{HasPins-none}
use Rattle.inode_refs.proofs.cache.InodeCache.new.Goals as goal

pub invariant_of-result : goal.invariant_of-result
invariant_of-result c = record {
  counted =
      (first_counted c.new-3.result c.new.result.entries c.new-2.result.entries c.new-3.ensures.counts c.new.ensures.empty c.new-2.ensures.empty);
  some = HasPins-none c.new-2.result.entries c.new-2.ensures.empty;
}
