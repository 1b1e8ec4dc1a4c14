-- The next block is decrypted and xored with the stored one before it.
use Rattle.std.proofs.Common.{◌≡◌, ℕ, List, ◌+◌, ◌*◌, ◌-◌, ◌/◌, suc, length, refl, ap, ◌∙◌, arith}
use Rattle.aes_core.specs.Aes.{decrypted_block}
use Rattle.aes_core.proofs.RoundLemmas.{length-decrypted_block}
use Rattle.byte_words.specs.Xor.{xor_bytes}
use Rattle.byte_words.specs.Blocks.{block_at, first_blocks}
use Rattle.byte_words.proofs.BlockLemmas.{between-block_at}
use Rattle.byte_words.proofs.InPlace.{none_in_place, all_in_place}
use Rattle.cts_mode.specs.Cbc.{block_before, plain_block}
use Rattle.cts_mode.proofs.FrontLemmas.{length_front, read_front, write_front}
use Rattle.cts_mode.proofs.CbcLemmas.{length-plain_block}
use Rattle.cts_mode.proofs.chain.unchain.Goals as goal

pub loop-j-init : goal.loop-j-init
loop-j-init c =
    record {
      before = refl;
      replaced = none_in_place 16 (plain_block (decrypted_block c.args.key.now) c.args.iv c.args.text.now) c.args.text.now;
    }

pub loop-j-preserved : goal.loop-j-preserved
unfolding plain_block
loop-j-preserved c =
    let decrypt : List ℕ → List ℕ = decrypted_block c.args.key.now in
    let j = c.loop-j.j in
    let was = c.args.text.now in
    let block : ℕ → List ℕ = plain_block decrypt c.args.iv was in
    let front : length (first_blocks block j) ≡ 16 * j
    = length_front 16 block j (λ n low. length-plain_block decrypt c.args.iv was (length-decrypted_block c.args.key.now) n j (omega arith) (omega arith) (omega arith)) in
    let read : c.block_from-block.result ≡ block_at 16 was j
    = c.block_from-block.ensures ∙ between-block_at 16 c.loop-j.text j (16 * j) (16 * j + 16) refl refl
    ∙ read_front 16 block j c.loop-j.text was front c.loop-j.invariant.replaced in
    let next : suc j ≡ j + 1 = omega arith in
    record {
      before = read ∙ ap (block_before c.args.iv was) next;
      replaced = write_front 16 block j (16 * j) (16 * j + 16 - 16 * j) c.loop-j.text was c.copy_from_slice.new.self front refl (omega arith) c.loop-j.invariant.replaced
          (c.copy_from_slice.ensures.after ∙ c.xor-plain.ensures
          ∙ (λ i. xor_bytes ((c.decrypt_block.ensures ∙ ap decrypt read) i) (c.loop-j.invariant.before i)));
    }

pub returns : goal.returns
returns c =
    let block : ℕ → List ℕ = plain_block (decrypted_block c.args.key.now) c.args.iv c.args.text.now in
    let done : c.loop-j.j ≡ length c.args.text.now / 16 = omega arith in
    all_in_place 16 block c.loop-j.j c.loop-j.text c.args.text.now c.loop-j.invariant.replaced (omega arith) ∙ ap (first_blocks block) done
