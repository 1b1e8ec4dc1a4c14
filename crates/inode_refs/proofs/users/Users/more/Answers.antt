use Rattle.std.proofs.Common.{OnOk, Option, sym, subst}
use Rattle.policy_ctx.specs.declared.policy.KeyId.{KeyId}
use Rattle.inode_refs.specs.declared.users.Users.{Users}
use Rattle.inode_refs.specs.Users.{HasOneMore}
use Rattle.inode_refs.proofs.UserLemmas.{more_counted, on_ok}
use Rattle.inode_refs.proofs.users.Users.more.Goals as goal

pub returns-clause-more : goal.returns-clause-more
returns-clause-more c =
    let new : Users = record c.args.self.now { counts = c.one_more.new.counts } in
    subst (λ (o : Option KeyId). OnOk c.one_more.result (HasOneMore c.args.self.now new o)) (sym c.in-Some.is)
    (on_ok c.one_more.result (more_counted c.args.self.now c.one_more.new.counts c.in-Some.id) c.one_more.ensures.more)
