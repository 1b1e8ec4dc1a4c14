-- The mask is the same in each lane.
use Rattle.std.specs.Prelude.{bit_and}
use Rattle.std.proofs.lemmas.Simd.{zip2_splat}
use Rattle.aes_core.specs.Shuffles.{low_half}
use Rattle.aes_core.proofs.shuffles.low_halves.Goals as goal

pub returns : goal.returns
unfolding low_half
returns c = zip2_splat bit_and c.args.bytes 16 15 c.fits-bytes.0
