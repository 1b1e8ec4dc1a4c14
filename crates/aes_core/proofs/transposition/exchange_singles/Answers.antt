-- Each lane by its bits.
use Rattle.std.proofs.Common.{◌∙◌}
use Rattle.aes_core.proofs.ExchangeLemmas.{lower_lanes, upper_lanes, singles_lower, singles_upper}
use Rattle.aes_core.proofs.BitLemmas.{lower_vector, upper_vector, singles}
use Rattle.aes_core.proofs.transposition.exchange_singles.Goals as goal

pub returns-clause-lower : goal.returns-clause-lower
returns-clause-lower c f g fb gb first second = lower_lanes 1 85 singles_lower 16 c.args.first c.args.second c.fits-first.0 c.fits-second.0 c.fits-first.1 c.fits-second.1
    ∙ lower_vector 1 85 170 singles f g c.args.first c.args.second fb gb first second

pub returns-clause-upper : goal.returns-clause-upper
returns-clause-upper c f g fb gb first second = upper_lanes 1 85 170 singles_upper 16 c.args.first c.args.second c.fits-first.0 c.fits-second.0 c.fits-first.1 c.fits-second.1
    ∙ upper_vector 1 85 170 singles f g c.args.first c.args.second fb gb first second
