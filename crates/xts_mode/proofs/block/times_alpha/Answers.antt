-- The shift and the mask are the product by α.
use Rattle.std.proofs.Common.{arith}
use Rattle.xts_mode.proofs.TweakLemmas.{times_alpha_is}
use Rattle.xts_mode.proofs.block.times_alpha.Goals as goal

pub returns : goal.returns
returns c = times_alpha_is c.args.tweak (omega arith)
