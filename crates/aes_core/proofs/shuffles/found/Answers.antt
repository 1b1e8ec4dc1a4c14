-- Places fit, and 16 lanes look into one table.
use Rattle.aes_core.proofs.ShuffleLemmas.{places_fit, found_at}
use Rattle.aes_core.proofs.shuffles.found.Goals as goal

pub swizzle : goal.swizzle
swizzle c = places_fit c.args.places c.fits-places.0 c.requires

pub returns : goal.returns
returns c = found_at c.args.table c.args.places c.fits-places.0
