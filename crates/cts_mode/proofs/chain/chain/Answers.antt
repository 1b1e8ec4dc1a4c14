-- The next block is CBC's, and is written over the block that was read.
use Rattle.std.proofs.Common.{◌≡◌, ℕ, List, ◌+◌, ◌*◌, ◌-◌, ◌/◌, suc, length, refl, ap, sym, ◌∙◌, arith}
use Rattle.aes_core.specs.Aes.{encrypted_block}
use Rattle.aes_core.proofs.RoundLemmas.{length-encrypted_block}
use Rattle.byte_words.specs.Xor.{xor_bytes}
use Rattle.byte_words.specs.Blocks.{block_at, first_blocks}
use Rattle.byte_words.proofs.BlockLemmas.{between-block_at}
use Rattle.byte_words.proofs.InPlace.{none_in_place, read_in_place, write_in_place, all_in_place}
use Rattle.cts_mode.specs.Cbc.{cbc_block}
use Rattle.cts_mode.proofs.CbcLemmas.{cbc_block_next, cbc_block_suc, length-cbc_block}
use Rattle.cts_mode.proofs.chain.chain.Goals as goal

pub loop-j-init : goal.loop-j-init
unfolding cbc_block
loop-j-init c =
    record {
      last = refl;
      replaced = none_in_place 16 (λ j. cbc_block (encrypted_block c.args.key.now) c.args.iv c.args.text.now (suc j)) c.args.text.now;
    }

pub loop-j-preserved : goal.loop-j-preserved
loop-j-preserved c =
    let encrypt : List ℕ → List ℕ = encrypted_block c.args.key.now in
    let j = c.loop-j.j in
    let was = c.args.text.now in
    let block : ℕ → List ℕ = λ n. cbc_block encrypt c.args.iv was (suc n) in
    let sizes : (n : ℕ) → length (block n) ≡ 16 = length-cbc_block encrypt c.args.iv was (length-encrypted_block c.args.key.now) in
    let read : c.block_from.result ≡ block_at 16 was j
    = c.block_from.ensures ∙ between-block_at 16 c.loop-j.text j (16 * j) (16 * j + 16) refl refl
    ∙ read_in_place 16 block j c.loop-j.text was sizes c.loop-j.invariant.replaced in
    let made : c.encrypt_block-previous.result ≡ encrypt (xor_bytes (block_at 16 was j) (cbc_block encrypt c.args.iv was j))
    = c.encrypt_block-previous.ensures ∙ ap encrypt (c.xor.ensures ∙ (λ i. xor_bytes (read i) (c.loop-j.invariant.last i))) in
    record {
      last = made ∙ sym (cbc_block_next encrypt c.args.iv was j);
      replaced = write_in_place 16 block j (16 * j) (16 * j + 16 - 16 * j) c.loop-j.text was c.copy_from_slice.new.self sizes refl (omega arith) c.loop-j.invariant.replaced
          (c.copy_from_slice.ensures.after ∙ made ∙ sym (cbc_block_suc encrypt c.args.iv was j));
    }

pub returns-clause-blocks : goal.returns-clause-blocks
returns-clause-blocks c =
    let block : ℕ → List ℕ = λ n. cbc_block (encrypted_block c.args.key.now) c.args.iv c.args.text.now (suc n) in
    let done : c.loop-j.j ≡ length c.args.text.now / 16 = omega arith in
    all_in_place 16 block c.loop-j.j c.loop-j.text c.args.text.now c.loop-j.invariant.replaced (omega arith) ∙ ap (first_blocks block) done

pub returns-clause-last : goal.returns-clause-last
returns-clause-last c =
    let done : c.loop-j.j ≡ length c.args.text.now / 16 = omega arith in
    c.loop-j.invariant.last ∙ ap (cbc_block (encrypted_block c.args.key.now) c.args.iv c.args.text.now) done
