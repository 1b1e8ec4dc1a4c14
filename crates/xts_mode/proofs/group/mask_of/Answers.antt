-- The two halves of a tweak, byte by byte.
use Rattle.xts_mode.proofs.TweakLemmas.{bytes_of_halves}
use Rattle.xts_mode.proofs.group.mask_of.Goals as goal

pub returns : goal.returns
returns c = bytes_of_halves c.args.tweak
