use Rattle.std.proofs.Common.{eqb, not, ap, ◌∙◌}
use Rattle.inode_refs.proofs.CacheLemmas.{pins_seen}
use Rattle.inode_refs.proofs.kept.is_pinned.Goals as goal

pub returns : goal.returns
returns c = ap (λ n. not (eqb n 0)) (c.count_of.ensures ∙ pins_seen c.args.pins.now c.args.node)
