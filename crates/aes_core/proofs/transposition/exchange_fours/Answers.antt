-- Each lane by its bits.
use Rattle.std.proofs.Common.{◌∙◌}
use Rattle.aes_core.proofs.ExchangeLemmas.{lower_lanes, upper_lanes, fours_lower, fours_upper}
use Rattle.aes_core.proofs.BitLemmas.{lower_vector, upper_vector, fours}
use Rattle.aes_core.proofs.LaneLemmas.{vector-IsBlock}
use Rattle.aes_core.proofs.transposition.exchange_fours.Goals as goal

pub returns-clause-lower : goal.returns-clause-lower
returns-clause-lower c f g fb gb first second = lower_lanes 4 15 fours_lower 16 c.args.first c.args.second c.fits-first.0 c.fits-second.0 c.fits-first.1 c.fits-second.1
    ∙ lower_vector 4 15 240 fours f g c.args.first c.args.second fb gb first second

pub returns-clause-upper : goal.returns-clause-upper
returns-clause-upper c f g fb gb first second = upper_lanes 4 15 240 fours_upper 16 c.args.first c.args.second c.fits-first.0 c.fits-second.0 c.fits-first.1 c.fits-second.1
    ∙ upper_vector 4 15 240 fours f g c.args.first c.args.second fb gb first second

pub returns-clause-given : goal.returns-clause-given
returns-clause-given c = (vector-IsBlock c.args.first c.fits-first.0 c.fits-first.1, vector-IsBlock c.args.second c.fits-second.0 c.fits-second.1)
