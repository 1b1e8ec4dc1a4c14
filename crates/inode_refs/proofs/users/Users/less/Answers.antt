use Rattle.std.proofs.Common.{Option, sym, subst}
use Rattle.policy_ctx.specs.declared.policy.KeyId.{KeyId}
use Rattle.inode_refs.specs.declared.users.Users.{Users}
use Rattle.inode_refs.specs.Users.{HasOneLess}
use Rattle.inode_refs.proofs.UserLemmas.{less_counted}
use Rattle.inode_refs.proofs.users.Users.less.Goals as goal

pub returns-then-self : goal.returns-then-self
returns-then-self c =
    let new : Users = record c.args.self.now { counts = c.one_less.new.counts } in
    subst (λ (o : Option KeyId). HasOneLess c.args.self.now new o) (sym c.in-Some.is)
    (less_counted c.args.self.now c.one_less.new.counts c.in-Some.id c.one_less.ensures)
