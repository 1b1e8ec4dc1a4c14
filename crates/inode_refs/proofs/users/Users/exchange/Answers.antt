use Rattle.std.proofs.Common.{sym, ◌∙◌}
use Rattle.inode_refs.proofs.UserLemmas.{exchanged, from_ok}
use Rattle.inode_refs.proofs.users.Users.exchange.Goals as goal

pub returns-then-is_ok : goal.returns-then-is_ok
returns-then-is_ok c = exchanged c.args.self.now c.less.new.self c.more.new.self c.args.older c.args.newer
    (sym c.eq.ensures ∙ c.if-eq.false) c.less.ensures
    (from_ok c.more.result (sym c.is_ok.ensures.value ∙ c.if-is_ok.true) c.more.ensures.more)
