use Rattle.std.proofs.Common.{◌≡◌, ℕ, refl, arith, bit_xor, slice_index}
use Rattle.argon_kdf.specs.Blocks.{xored}
use Rattle.argon_kdf.proofs.Loops.{mapped_over_more, mapped_over_all}
use Rattle.argon_kdf.proofs.block.xor_into.Goals as goal

pub words-preserved : goal.words-preserved
words-preserved c =
    mapped_over_more
    (λ (n x : ℕ). bit_xor x (slice_index c.args.other.now n)) c.args.block.now c.words.block c.words.i _
    (omega arith) c.words.invariant refl

pub returns : goal.returns
unfolding xored
returns c =
    let done : c.words.i ≡ 128 = omega arith in
    mapped_over_all
    (λ (n x : ℕ). bit_xor x (slice_index c.args.other.now n)) c.args.block.now c.words.block 128
    (omega arith) (rw done at c.words.invariant)
