use Rattle.dentry_cache.proofs.NameLemmas.{kept_is, kept_found, kept_beside, kept_few}
use Rattle.dentry_cache.proofs.cache.NameCache.keep.Goals as goal

pub returns-in-Ok-clause-kept : goal.returns-in-Ok-clause-kept
returns-in-Ok-clause-kept c =
    kept_is c.args.self.now c.self.inside.pairs c.put.new.self c.self.inside.refused c.args.dir c.args.name.now c.args.number c.of.result
    c.self.view_is c.self.invariant c.len-few.ensures.valid.1 c.of.ensures c.in-Ok.ensures.entries

pub returns-in-Ok-clause-found : goal.returns-in-Ok-clause-found
returns-in-Ok-clause-found c = kept_found c.args.self.now _ c.args.dir c.args.name.now c.args.number (returns-in-Ok-clause-kept c)

pub returns-in-Ok-clause-beside : goal.returns-in-Ok-clause-beside
returns-in-Ok-clause-beside c = kept_beside c.args.self.now _ c.args.dir c.args.name.now c.args.number (returns-in-Ok-clause-kept c)

pub returns-in-Ok-clause-few : goal.returns-in-Ok-clause-few
returns-in-Ok-clause-few c = kept_few c.args.self.now _ c.args.dir c.args.name.now c.args.number (returns-in-Ok-clause-kept c)
