-- At each place the loop writes the xor of what was passed.
use Rattle.std.proofs.Common.{refl, arith}
use Rattle.byte_words.specs.Xor.{xor_bytes}
use Rattle.byte_words.proofs.XorLemmas.{xor_bytes_step}
use Rattle.byte_words.proofs.xor_into.Goals as goal

pub loop-i-init : goal.loop-i-init
unfolding xor_bytes
loop-i-init c = refl

pub loop-i-preserved : goal.loop-i-preserved
loop-i-preserved c = xor_bytes_step c.args.target.now c.args.other.now c.loop-i.target c.loop-i.i (omega arith) (omega arith) c.loop-i.invariant
