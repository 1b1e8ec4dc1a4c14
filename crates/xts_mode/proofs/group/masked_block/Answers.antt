-- The part that is loaded is the block.
use Rattle.std.proofs.Common.{arith}
use Rattle.xts_mode.proofs.GroupLemmas.{masked_lanes}
use Rattle.xts_mode.proofs.group.masked_block.Goals as goal

pub returns : goal.returns
returns c = masked_lanes c.args.group.now c.args.b _ c.args.mask (omega arith) c.requires.within c.fits-mask.0
