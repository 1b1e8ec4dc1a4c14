use Rattle.std.proofs.Common.{sym, ◌∙◌}
use Rattle.dentry_cache.proofs.NameLemmas.{dir_done, dir_none, dir_no_more, dir_step}
use Rattle.dentry_cache.proofs.cache.NameCache.forget_dir.Goals as goal

pub loop-key-smaller : goal.loop-key-smaller
loop-key-smaller c = (dir_step c.loop-key.self c.take.new.self c.args.dir c.in-Some.key (sym c.first_in.ensures ∙ c.in-Some.is) c.take.ensures).1

pub loop-key-preserved : goal.loop-key-preserved
loop-key-preserved c = record {
  same = (dir_step c.loop-key.self c.take.new.self c.args.dir c.in-Some.key (sym c.first_in.ensures ∙ c.in-Some.is) c.take.ensures).0
      ∙ c.loop-key.invariant.same;
  refused = rw c.take.ensures c.loop-key.invariant.refused;
}

pub returns-clause-gone : goal.returns-clause-gone
returns-clause-gone c =
    dir_done c.args.self.now c.loop-key.self c.args.dir (sym c.first_in.ensures ∙ c.in_default.is) c.loop-key.invariant.same c.loop-key.invariant.refused

pub returns-clause-none : goal.returns-clause-none
returns-clause-none c = dir_none c.args.self.now c.loop-key.self c.args.dir (returns-clause-gone c)

pub returns-clause-no_more : goal.returns-clause-no_more
returns-clause-no_more c = dir_no_more c.args.self.now c.loop-key.self c.args.dir (returns-clause-gone c)
