-- Lane by lane.
use Rattle.aes_core.proofs.PlaneSteps.{key_plane_is}
use Rattle.aes_core.proofs.plane_rounds.key_plane.Goals as goal

pub returns : goal.returns
returns c = key_plane_is c.args.bit c.args.key c.requires c.fits-key.0 c.fits-key.1
