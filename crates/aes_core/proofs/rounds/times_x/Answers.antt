-- The mask is xored if the highest bit is set.
use Rattle.aes_core.proofs.LaneLemmas.{times_x_lanes}
use Rattle.aes_core.proofs.rounds.times_x.Goals as goal

pub returns : goal.returns
returns c = times_x_lanes 16 c.args.bytes c.fits-bytes.0 c.fits-bytes.1
