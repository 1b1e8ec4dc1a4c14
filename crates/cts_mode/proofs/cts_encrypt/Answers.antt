-- One block is one block of CBC; else the blocks are written as stealing has them.
use Rattle.std.proofs.Common.{◌≡◌, ℕ, List, ◌+◌, ◌*◌, ◌-◌, ◌/◌, ◌++◌, suc, length, take, drop, ap, sym, ◌∙◌, arith}
use Rattle.aes_core.specs.Aes.{encrypted_block}
use Rattle.aes_core.proofs.RoundLemmas.{length-encrypted_block}
use Rattle.byte_words.specs.Xor.{xor_bytes, zero_filled}
use Rattle.byte_words.specs.Blocks.{first_blocks}
use Rattle.byte_words.proofs.BlockLemmas.{length-first_blocks}
use borrow.Rule.Slice.PartMut.{put_mid}
use Rattle.cts_mode.specs.Cbc.{cbc_block}
use Rattle.byte_words.proofs.BlockLemmas.{length-first_blocks}
use borrow.Rule.Slice.PartMut.{put_mid}
use Rattle.cts_mode.specs.Cts.{cts_encrypted}
use Rattle.cts_mode.proofs.CbcLemmas.{length-cbc_block}
use Rattle.cts_mode.proofs.StealingLemmas.{Pieces, pieces, cs3_encrypted_short, cs3_encrypted_long, stealing_is, whole_blocks, last_piece, length-whole_blocks, last_over}
use Rattle.cts_mode.proofs.cts_encrypt.Goals as goal

pub returns-then-text-eq16 : goal.returns-then-text-eq16
unfolding first_blocks cts_encrypted
returns-then-text-eq16 c =
    let encrypt : List ℕ → List ℕ = encrypted_block c.args.key.now in
    let one : length c.args.text.now / 16 ≡ 1 = omega arith in
    c.chain.ensures.blocks
    ∙ ap (first_blocks (λ j. cbc_block encrypt c.args.iv c.args.text.now (suc j))) one
    ∙ sym (cs3_encrypted_short encrypt c.args.iv c.args.text.now c.if-text-eq16.true)

pub returns : goal.returns
unfolding cts_encrypted
returns c =
    let encrypt : List ℕ → List ℕ = encrypted_block c.args.key.now in
    let text = c.args.text.now in
    let iv = c.args.iv in
    let r : ℕ = (length text - 1) / 16 - 1 in
    let cut : Pieces text r = pieces text c.requires.one_block c.if-text-eq16.false in
    let end : 16 * ((length text - 1) / 16) ≡ 16 * (r + 1) = omega (arith, cut.more) in
    let front : c.split_at_mut-blocks.result.0.now ≡ whole_blocks text r cut = c.split_at_mut-blocks.ensures.front ∙ ap (λ n. take n text) end in
    let piece : c.split_at_mut-blocks.result.1.now ≡ last_piece text r cut = c.split_at_mut-blocks.ensures.back ∙ ap (λ n. drop n text) end in
    let block : ℕ → List ℕ = λ j. cbc_block encrypt iv (whole_blocks text r cut) (suc j) in
    let count : length (whole_blocks text r cut) / 16 ≡ r + 1 = omega (arith, length-whole_blocks text r cut) in
    let blocks : c.chain-stolen.new.text ≡ first_blocks block (r + 1)
    = c.chain-stolen.ensures.blocks
    ∙ ap (λ (xs : List ℕ). first_blocks (λ j. cbc_block encrypt iv xs (suc j)) (length xs / 16)) front
    ∙ ap (first_blocks block) count in
    let stolen : c.chain-stolen.result ≡ cbc_block encrypt iv (whole_blocks text r cut) (r + 1)
    = c.chain-stolen.ensures.last
    ∙ ap (λ (xs : List ℕ). cbc_block encrypt iv xs (length xs / 16)) front
    ∙ ap (cbc_block encrypt iv (whole_blocks text r cut)) count in
    let last : c.encrypt_block-final_block.result ≡ encrypt (xor_bytes (zero_filled 16 (last_piece text r cut)) (cbc_block encrypt iv (whole_blocks text r cut) (r + 1)))
    = c.encrypt_block-final_block.ensures
    ∙ ap encrypt (c.xor.ensures ∙ (λ i. xor_bytes ((c.filled.ensures ∙ ap (zero_filled 16) piece) i) (stolen i))) in
    let sizes : (j : ℕ) → length (block j) ≡ 16 = length-cbc_block encrypt iv (whole_blocks text r cut) (length-encrypted_block c.args.key.now) in
    let whole : length c.chain-stolen.new.text ≡ 16 * (r + 1) = ap length blocks ∙ length-first_blocks 16 block (r + 1) sizes in
    let over : put_mid (16 * ((length text - 1) / 16) - 16) (length c.chain-stolen.new.text - (16 * ((length text - 1) / 16) - 16)) c.chain-stolen.new.text c.copy_from_slice-2.new.self
    ≡ first_blocks block r ++ c.copy_from_slice-2.new.self
    = last_over block r (16 * ((length text - 1) / 16) - 16) (length c.chain-stolen.new.text - (16 * ((length text - 1) / 16) - 16)) c.chain-stolen.new.text c.copy_from_slice-2.new.self
    sizes blocks (omega (arith, end)) (omega (arith, end, whole)) in
    let left : c.copy_from_slice.new.self ≡ take (length (last_piece text r cut)) (cbc_block encrypt iv (whole_blocks text r cut) (r + 1))
    = c.copy_from_slice.ensures.after ∙ (λ i. take (length (piece i)) (stolen i)) in
    (λ i. (over ∙ ap (λ zs. first_blocks block r ++ zs) (c.copy_from_slice-2.ensures.after ∙ last)) i ++ left i)
    ∙ sym (stealing_is text r cut encrypt iv) ∙ sym (cs3_encrypted_long encrypt iv text r cut)
