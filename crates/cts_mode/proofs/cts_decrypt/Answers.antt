-- One block is one block of CBC; else the stolen block is completed first, and all before the last
-- piece is CBC.
use Rattle.std.proofs.Common.{◌≡◌, ℕ, List, ◌+◌, ◌*◌, ◌-◌, ◌/◌, ◌≤◌, ◌++◌, length, take, drop, ap, sym, ◌∙◌, arith, length-append}
use Rattle.std.proofs.lemmas.List.{length-take-le}
use borrow.Rule.Slice.PartMut.{put_mid}
use Rattle.aes_core.specs.Aes.{decrypted_block}
use Rattle.aes_core.proofs.RoundLemmas.{length-decrypted_block}
use Rattle.byte_words.specs.Xor.{xor_bytes}
use Rattle.byte_words.specs.Blocks.{block_at, first_blocks}
use Rattle.byte_words.proofs.BlockLemmas.{between-block_at}
use Rattle.cts_mode.specs.Cbc.{plain_block}
use Rattle.cts_mode.specs.Cts.{cts_decrypted}
use Rattle.cts_mode.proofs.CbcLemmas.{block_at_front}
use Rattle.cts_mode.proofs.StealingLemmas.{Pieces, pieces, cs3_decrypted_short, cs3_decrypted_long, unstealing_is, whole_blocks, last_piece, length-last_piece, end_over, completed, length-completed, xor_taken}
use Rattle.cts_mode.proofs.cts_decrypt.Goals as goal

pub returns-then-text-eq16 : goal.returns-then-text-eq16
unfolding first_blocks cts_decrypted
returns-then-text-eq16 c =
    let decrypt : List ℕ → List ℕ = decrypted_block c.args.key.now in
    let one : length c.args.text.now / 16 ≡ 1 = omega arith in
    c.unchain.ensures
    ∙ ap (first_blocks (plain_block decrypt c.args.iv c.args.text.now)) one
    ∙ sym (cs3_decrypted_short decrypt c.args.iv c.args.text.now c.if-text-eq16.true)

pub returns : goal.returns
unfolding cts_decrypted
returns c =
    let decrypt : List ℕ → List ℕ = decrypted_block c.args.key.now in
    let text = c.args.text.now in
    let iv = c.args.iv in
    let r : ℕ = (length text - 1) / 16 - 1 in
    let cut : Pieces text r = pieces text c.requires.one_block c.if-text-eq16.false in
    let end : 16 * ((length text - 1) / 16) ≡ 16 * (r + 1) = omega (arith, cut.more) in
    let front : c.split_at_mut-blocks.result.0.now ≡ whole_blocks text r cut = c.split_at_mut-blocks.ensures.front ∙ ap (λ n. take n text) end in
    let piece : c.split_at_mut-blocks.result.1.now ≡ last_piece text r cut = c.split_at_mut-blocks.ensures.back ∙ ap (λ n. drop n text) end in
    let at : ℕ = 16 * ((length text - 1) / 16) - 16 in
    let read : c.block_from.result ≡ block_at 16 text r
    = c.block_from.ensures
    ∙ between-block_at 16 c.split_at_mut-blocks.result.0.now r at (at + 16) (omega (arith, end)) (omega (arith, end))
    ∙ ap (λ xs. block_at 16 xs r) front ∙ block_at_front text (16 * (r + 1)) r (omega arith) in
    let plain : c.decrypt_block-last_plain.result ≡ decrypt (block_at 16 text r) = c.decrypt_block-last_plain.ensures ∙ ap decrypt read in
    let stolen : c.whole-stolen.result ≡ completed (last_piece text r cut) (decrypt (block_at 16 text r))
    = c.whole-stolen.ensures ∙ (λ i. completed (piece i) (plain i)) in
    let within : 16 * (r + 1) ≤ length text = omega (arith, cut.more) in
    let size : length c.split_at_mut-blocks.result.0.now ≡ 16 * (r + 1) = ap length front ∙ length-take-le (16 * (r + 1)) text within in
    let over : put_mid at (length c.split_at_mut-blocks.result.0.now - at) c.split_at_mut-blocks.result.0.now c.copy_from_slice.new.self
    ≡ take (16 * r) text ++ c.copy_from_slice.new.self
    = end_over text c.split_at_mut-blocks.result.0.now c.copy_from_slice.new.self r at (length c.split_at_mut-blocks.result.0.now - at) within front (omega (arith, end)) (omega (arith, end, size)) in
    let few : length (last_piece text r cut) ≤ 16 = omega (arith, length-last_piece text r cut, cut.more, cut.most) in
    let whole = completed (last_piece text r cut) (decrypt (block_at 16 text r)) in
    let ends : length whole ≡ 16 = length-completed (last_piece text r cut) (decrypt (block_at 16 text r)) few (length-decrypted_block c.args.key.now (block_at 16 text r)) in
    let count : length (take (16 * r) text ++ whole) / 16 ≡ r + 1
    = omega (arith, length-append (take (16 * r) text) whole, ends, length-take-le (16 * r) text (omega (arith, within))) in
    let blocks : c.unchain-2.new.text ≡ first_blocks (plain_block decrypt iv (take (16 * r) text ++ whole)) (r + 1)
    = c.unchain-2.ensures
    ∙ ap (λ (xs : List ℕ). first_blocks (plain_block decrypt iv xs) (length xs / 16)) (over ∙ ap (λ zs. take (16 * r) text ++ zs) (c.copy_from_slice.ensures.after ∙ stolen))
    ∙ ap (first_blocks (plain_block decrypt iv (take (16 * r) text ++ whole))) count in
    let rest : c.xor_into.new.target ≡ xor_bytes (decrypt (block_at 16 text r)) (last_piece text r cut)
    = c.xor_into.ensures ∙ (λ i. xor_bytes (piece i) (take (length (piece i)) (plain i)))
    ∙ xor_taken (last_piece text r cut) (decrypt (block_at 16 text r)) in
    (λ i. blocks i ++ rest i) ∙ sym (unstealing_is decrypt iv text r) ∙ sym (cs3_decrypted_long decrypt iv text r cut)
