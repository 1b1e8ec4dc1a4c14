use Rattle.std.proofs.Common.{ap, ◌∙◌}
use Rattle.inode_refs.specs.CacheMaps.{Cache, pins_of}
use Rattle.inode_refs.proofs.CacheLemmas.{pins_seen}
use Rattle.inode_refs.proofs.cache.InodeCache.pins.Goals as goal

pub returns : goal.returns
returns c = c.count_of.ensures ∙ (pins_seen c.self.inside.pins c.args.node ∙ ap (λ (v : Cache). pins_of v c.args.node) c.self.view_is)
