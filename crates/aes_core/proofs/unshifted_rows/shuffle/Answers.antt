-- Places fit, and 16 lanes look into one vector.
use Rattle.std.proofs.Common.{arith}
use Rattle.aes_core.proofs.ShuffleLemmas.{places_fit, found_at}
use Rattle.aes_core.proofs.unshifted_rows.shuffle.Goals as goal

pub swizzle : goal.swizzle
swizzle c = places_fit c.args.places (omega arith) c.requires

pub returns : goal.returns
returns c = found_at c.args.state c.args.places (omega arith)
