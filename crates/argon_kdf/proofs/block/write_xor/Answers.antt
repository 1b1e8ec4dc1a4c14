use Rattle.std.proofs.Common.{◌≡◌, ◌∙◌, ℕ, refl, arith, bit_xor, slice_index}
use Rattle.std.proofs.lemmas.List.{length-set}
use Rattle.argon_kdf.specs.Blocks.{xored}
use Rattle.argon_kdf.proofs.Loops.{mapped_more, mapped_all}
use Rattle.argon_kdf.proofs.block.write_xor.Goals as goal

pub words-preserved : goal.words-preserved
words-preserved c = record {
  long = length-set _ _ _ ∙ c.words.invariant.long;
  written =
      mapped_more (λ (n : ℕ). bit_xor (slice_index c.args.x.now n)
      (slice_index c.args.y.now n)) c.words.block c.words.i _ (omega arith) c.words.invariant.written refl;
}

pub returns : goal.returns
unfolding xored
returns c =
    let done : c.words.i ≡ 128 = omega arith in
    mapped_all (λ (n : ℕ). bit_xor (slice_index c.args.x.now n)
    (slice_index c.args.y.now n)) c.words.block 128 (omega arith) (rw done at c.words.invariant.written)
