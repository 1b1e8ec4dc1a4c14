-- The shift is the same in each lane.
use Rattle.std.specs.Prelude.{◌/◌, ◌^◌}
use Rattle.std.proofs.lemmas.Simd.{zip2_splat}
use Rattle.aes_core.specs.Shuffles.{high_half}
use Rattle.aes_core.proofs.shuffles.high_halves.Goals as goal

pub returns : goal.returns
unfolding high_half
returns c = zip2_splat (λ a b. a / 2 ^ b) c.args.bytes 16 4 c.fits-bytes.0
