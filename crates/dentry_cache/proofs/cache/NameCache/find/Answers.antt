use Rattle.std.proofs.Common.{rules, sym, ◌∙◌}
use Rattle.dentry_cache.proofs.NameLemmas.{used_no_more, used_stays}
use Rattle.dentry_cache.proofs.cache.NameCache.find.Goals as goal

pub returns-clause-value : goal.returns-clause-value
returns-clause-value c = search rules

pub returns-clause-recent : goal.returns-clause-recent
returns-clause-recent c = search rules

pub returns-clause-stays : goal.returns-clause-stays
returns-clause-stays c =
    used_stays c.args.self.now _ c.args.dir c.args.name.now (returns-clause-recent c) ∙ sym (returns-clause-value c)

pub returns-clause-no_more : goal.returns-clause-no_more
returns-clause-no_more c = used_no_more c.args.self.now _ c.args.dir c.args.name.now (returns-clause-recent c)
