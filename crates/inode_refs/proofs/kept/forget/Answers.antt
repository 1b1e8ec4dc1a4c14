use Rattle.inode_refs.proofs.CacheLemmas.{key_gone}
use Rattle.inode_refs.proofs.kept.forget.Goals as goal

pub returns-in-Some : goal.returns-in-Some
returns-in-Some c = key_gone c.args.keys.now c.remove.new.self c.args.node c.remove.ensures.updates.0

pub returns-in-None : goal.returns-in-None
returns-in-None c = key_gone c.args.keys.now c.remove.new.self c.args.node c.remove.ensures.updates.0
