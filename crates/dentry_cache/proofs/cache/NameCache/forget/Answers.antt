use Rattle.std.proofs.Common.{rules}
use Rattle.dentry_cache.proofs.NameLemmas.{forgotten_none, forgotten_no_more}
use Rattle.dentry_cache.proofs.cache.NameCache.forget.Goals as goal

pub returns-clause-gone : goal.returns-clause-gone
returns-clause-gone c = search rules

pub returns-clause-none : goal.returns-clause-none
returns-clause-none c =
    forgotten_none c.args.self.now _ c.args.dir c.args.name.now (rw (← c.self.view_is) c.len-count.ensures.valid.0) (returns-clause-gone c)

pub returns-clause-no_more : goal.returns-clause-no_more
returns-clause-no_more c = forgotten_no_more c.args.self.now _ c.args.dir c.args.name.now (returns-clause-gone c)
