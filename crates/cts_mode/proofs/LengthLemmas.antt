-- Ciphertext stealing doesn't change the length of the text.
use Rattle.std.proofs.Common.{◌≡◌, ℕ, suc, ◌+◌, ◌*◌, ◌-◌, ◌/◌, ◌≤◌, List, ◌++◌, length, take, inl, inr, ap, sym, ◌∙◌, arith, length-append}
use Rattle.std.proofs.lemmas.List.{length-take-le}
use Rattle.std.proofs.lemmas.Bool.{cases_eq}
use Rattle.byte_words.specs.Xor.{xor_bytes, zero_filled}
use Rattle.byte_words.specs.Blocks.{block_at, first_blocks}
use Rattle.byte_words.proofs.BlockLemmas.{length-first_blocks}
use Rattle.byte_words.proofs.XorLemmas.{length-xor_bytes}
use Rattle.cts_mode.specs.Cbc.{cbc_block, plain_block}
use Rattle.cts_mode.specs.CbcStealing.{cs3_encrypted, cs3_decrypted}
use Rattle.cts_mode.proofs.FrontLemmas.{length_front}
use Rattle.cts_mode.proofs.CbcLemmas.{length-cbc_block, length-plain_block}
use Rattle.cts_mode.proofs.StealingLemmas.{Pieces, pieces, cs3_encrypted_short, cs3_encrypted_long, cs3_decrypted_short, cs3_decrypted_long, whole_blocks, last_piece, length-last_piece, stealing_is, unstealing_is, completed, length-completed, xor_taken}

module _ (cipher : List ℕ → List ℕ) (sizes : (block : List ℕ) → length (cipher block) ≡ 16) (iv text : List ℕ) where
  module _ (r : ℕ) (cut : Pieces text r) where
    abbrev piece : List ℕ
    piece = last_piece text r cut

    few : length piece ≤ 16
    few = omega (arith, length-last_piece text r cut, cut.more, cut.most)

    encrypted_long : length (cs3_encrypted cipher iv text) ≡ length text
    encrypted_long =
        let block : ℕ → List ℕ = λ j. cbc_block cipher iv (whole_blocks text r cut) (suc j) in
        let next : r + 1 ≡ suc r = omega arith in
        let previous : length (cbc_block cipher iv (whole_blocks text r cut) (r + 1)) ≡ 16
        = ap (λ n. length (cbc_block cipher iv (whole_blocks text r cut) n)) next ∙ length-cbc_block cipher iv (whole_blocks text r cut) sizes r in
        let final = cipher (xor_bytes (zero_filled 16 piece) (cbc_block cipher iv (whole_blocks text r cut) (r + 1))) in
        let left = take (length piece) (cbc_block cipher iv (whole_blocks text r cut) (r + 1)) in
        let count : length (first_blocks block r) ≡ 16 * r = length-first_blocks 16 block r (length-cbc_block cipher iv (whole_blocks text r cut) sizes) in
        let end : length left ≡ length piece = length-take-le (length piece) (cbc_block cipher iv (whole_blocks text r cut) (r + 1)) (omega (arith, few, previous)) in
        let one : length final ≡ 16 = sizes (xor_bytes (zero_filled 16 piece) (cbc_block cipher iv (whole_blocks text r cut) (r + 1))) in
        ap length (cs3_encrypted_long cipher iv text r cut ∙ stealing_is text r cut cipher iv)
        ∙ length-append (first_blocks block r ++ final) left
        ∙ omega (arith, length-append (first_blocks block r) final, count, end, one, length-last_piece text r cut, cut.more)

    decrypted_long : length iv ≡ 16 → length (cs3_decrypted cipher iv text) ≡ length text
    decrypted_long whole =
        let last_plain = cipher (block_at 16 text r) in
        let joined = take (16 * r) text ++ completed piece last_plain in
        let size : length joined ≡ 16 * (r + 1)
        = length-append (take (16 * r) text) (completed piece last_plain)
        ∙ omega (arith, length-completed piece last_plain few (sizes (block_at 16 text r)), length-take-le (16 * r) text (omega (arith, cut.more))) in
        let front : length (first_blocks (plain_block cipher iv joined) (r + 1)) ≡ 16 * (r + 1)
        = length_front 16 (plain_block cipher iv joined) (r + 1)
        (λ j low. length-plain_block cipher iv joined sizes j j whole (omega arith) (omega (arith, size))) in
        let taken : length (take (length piece) last_plain) ≡ length piece = length-take-le (length piece) last_plain (omega (arith, few, sizes (block_at 16 text r))) in
        let end : length (xor_bytes last_plain piece) ≡ length piece
        = ap length (sym (xor_taken piece last_plain)) ∙ length-xor_bytes piece (take (length piece) last_plain) (sym taken) in
        ap length (cs3_decrypted_long cipher iv text r cut ∙ unstealing_is cipher iv text r)
        ∙ length-append (first_blocks (plain_block cipher iv joined) (r + 1)) (xor_bytes last_plain piece)
        ∙ omega (arith, front, end, length-last_piece text r cut, cut.more)

  pub length-cs3_encrypted : 16 ≤ length text → length (cs3_encrypted cipher iv text) ≡ length text
  length-cs3_encrypted some =
      elim (cases_eq (length text) 16) [
        | inl short ↦ ap length (cs3_encrypted_short cipher iv text short) ∙ length-cbc_block cipher iv text sizes 0 ∙ sym short
        | inr long ↦ encrypted_long ((length text - 1) / 16 - 1) (pieces text some long)
      ]

  pub length-cs3_decrypted : length iv ≡ 16 → 16 ≤ length text → length (cs3_decrypted cipher iv text) ≡ length text
  length-cs3_decrypted whole some =
      elim (cases_eq (length text) 16) [
        | inl short ↦
            ap length (cs3_decrypted_short cipher iv text short)
            ∙ length-plain_block cipher iv text sizes 0 0 whole (omega arith) (omega arith) ∙ sym short
        | inr long ↦ decrypted_long ((length text - 1) / 16 - 1) (pieces text some long) whole
      ]
