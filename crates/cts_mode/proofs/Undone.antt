-- Decryption undoes encryption, and the length stays.
use Rattle.std.proofs.Common.{◌≡◌, ℕ, zero, suc, ◌+◌, ◌*◌, ◌-◌, ◌/◌, ◌≤◌, ◌<◌, List, ◌++◌, length, take, drop, inl, inr, refl, ap, sym, subst, ◌∙◌, arith, length-append}
use Rattle.std.proofs.lemmas.List.{append_assoc, take_all, take_at, drop_at, take-append-drop, length-take-le}
use Rattle.std.proofs.lemmas.Bool.{cases_eq}
use Rattle.byte_words.specs.Bytes.{AreBytes}
use Rattle.byte_words.specs.Xor.{xor_bytes, zero_filled}
use Rattle.byte_words.specs.Blocks.{block_at, first_blocks}
use Rattle.byte_words.proofs.BlockLemmas.{first_blocks_more, first_blocks_same, length-first_blocks, length-block_at, block_at-first_blocks, first_blocks-whole}
use Rattle.byte_words.proofs.XorLemmas.{length-xor_bytes, xor_bytes_twice, xor_bytes-lt, length-zero_filled}
use Rattle.cts_mode.specs.Cbc.{cbc_block, block_before, plain_block}
use Rattle.cts_mode.specs.CbcStealing.{cs3_encrypted, cs3_decrypted}
use Rattle.byte_words.proofs.AreBytesLemmas.{AreBytes-append, AreBytes-zero_filled, AreBytes-block_at, AreBytes-first_blocks, AreBytes-take, AreBytes-drop, AreBytes-xor_bytes}
use Rattle.cts_mode.proofs.ByteLemmas.{drop_filled, xor_filled}
use Rattle.cts_mode.proofs.CbcLemmas.{cbc_block_suc, length-cbc_block}
use Rattle.cts_mode.proofs.StealingLemmas.{Pieces, pieces, cs3_encrypted_short, cs3_encrypted_long, cs3_decrypted_short, cs3_decrypted_long, whole_blocks, last_piece, length-whole_blocks, length-last_piece, stealing_is, unstealing_is, completed}

-- a cipher of blocks of 16 bytes
pub record IsCipher (encrypt decrypt : List ℕ → List ℕ) : Type 0 where
  pub sizes : (block : List ℕ) → length (encrypt block) ≡ 16
  pub bytes : (block : List ℕ) → length block ≡ 16 → AreBytes block → AreBytes (encrypt block)
  pub undone : (block : List ℕ) → length block ≡ 16 → AreBytes block → decrypt (encrypt block) ≡ block

module _ (encrypt decrypt : List ℕ → List ℕ) (cipher : IsCipher encrypt decrypt) (iv : List ℕ) (iv_size : length iv ≡ 16) (iv_bytes : AreBytes iv) where
  module _ (xs : List ℕ) (xs_bytes : AreBytes xs) where
    -- blocks of CBC are blocks of bytes
    sound : (n : ℕ) → 16 * n ≤ length xs → (length (cbc_block encrypt iv xs n) ≡ 16) × AreBytes (cbc_block encrypt iv xs n)
    unfolding cbc_block
    sound zero within = (iv_size, iv_bytes)
    sound (suc n) within =
        let before = sound n (omega arith) in
        let here : length (block_at 16 xs n) ≡ 16 = length-block_at 16 xs n (omega arith) in
        let masked : length (xor_bytes (block_at 16 xs n) (cbc_block encrypt iv xs n)) ≡ 16
        = length-xor_bytes (block_at 16 xs n) (cbc_block encrypt iv xs n) (here ∙ sym before.0) ∙ here in (
          cipher.sizes (xor_bytes (block_at 16 xs n) (cbc_block encrypt iv xs n)),
          cipher.bytes (xor_bytes (block_at 16 xs n) (cbc_block encrypt iv xs n)) masked (xor_bytes-lt (block_at 16 xs n) (cbc_block encrypt iv xs n) (AreBytes-block_at 16 xs n xs_bytes) before.1),
        )

    -- a block, decrypted and xored with the one before, is the block of the text
    plain : (j : ℕ) → 16 * j + 16 ≤ length xs → xor_bytes (decrypt (cbc_block encrypt iv xs (suc j))) (cbc_block encrypt iv xs j) ≡ block_at 16 xs j
    plain j within =
        let before = sound j (omega arith) in
        let here : length (block_at 16 xs j) ≡ 16 = length-block_at 16 xs j within in
        let masked : length (xor_bytes (block_at 16 xs j) (cbc_block encrypt iv xs j)) ≡ 16
        = length-xor_bytes (block_at 16 xs j) (cbc_block encrypt iv xs j) (here ∙ sym before.0) ∙ here in
        let back : decrypt (cbc_block encrypt iv xs (suc j)) ≡ xor_bytes (block_at 16 xs j) (cbc_block encrypt iv xs j)
        = ap decrypt (cbc_block_suc encrypt iv xs j)
        ∙ cipher.undone (xor_bytes (block_at 16 xs j) (cbc_block encrypt iv xs j)) masked (xor_bytes-lt (block_at 16 xs j) (cbc_block encrypt iv xs j) (AreBytes-block_at 16 xs j xs_bytes) before.1) in
        ap (λ b. xor_bytes b (cbc_block encrypt iv xs j)) back ∙ xor_bytes_twice (block_at 16 xs j) (cbc_block encrypt iv xs j) (here ∙ sym before.0)

    -- all blocks of CBC, decrypted, are the whole blocks of the text
    chained : (n : ℕ) → length xs ≡ 16 * n → first_blocks (plain_block decrypt iv (first_blocks (λ j. cbc_block encrypt iv xs (suc j)) n)) n ≡ xs
    unfolding plain_block cbc_block
    chained n whole =
        let block : ℕ → List ℕ = λ j. cbc_block encrypt iv xs (suc j) in
        let sizes : (j : ℕ) → length (block j) ≡ 16 = length-cbc_block encrypt iv xs cipher.sizes in
        let at : (j : ℕ) → j < n → block_at 16 (first_blocks block n) j ≡ block j = λ j low. block_at-first_blocks 16 block n j sizes low in
        first_blocks_same (plain_block decrypt iv (first_blocks block n)) (block_at 16 xs) n
        (λ j low. (λ i. xor_bytes (decrypt (at j low i)) (preceding n at j (omega arith) i)) ∙ plain j (omega (arith, whole)))
        ∙ first_blocks-whole 16 xs n whole
      where
        preceding : (n : ℕ) → ((j : ℕ) → j < n → block_at 16 (first_blocks (λ k. cbc_block encrypt iv xs (suc k)) n) j ≡ cbc_block encrypt iv xs (suc j)) → (j : ℕ) → j ≤ n → block_before iv (first_blocks (λ k. cbc_block encrypt iv xs (suc k)) n) j ≡ cbc_block encrypt iv xs j
        preceding n at zero low = refl
        preceding n at (suc j) low = at j (omega arith)

  -- a text of one block
  undone_short : (text : List ℕ) → AreBytes text → length text ≡ 16 → cs3_decrypted decrypt iv (cs3_encrypted encrypt iv text) ≡ text
  unfolding plain_block cbc_block block_at
  undone_short text text_bytes short =
      let made : cs3_encrypted encrypt iv text ≡ cbc_block encrypt iv text 1 = cs3_encrypted_short encrypt iv text short in
      let size : length (cbc_block encrypt iv text 1) ≡ 16 = length-cbc_block encrypt iv text cipher.sizes 0 in
      ap (cs3_decrypted decrypt iv) made
      ∙ cs3_decrypted_short decrypt iv (cbc_block encrypt iv text 1) size
      ∙ ap (λ b. xor_bytes (decrypt b) iv) (take_all 16 (cbc_block encrypt iv text 1) (omega (arith, size)))
      ∙ plain text text_bytes 0 (omega arith)
      ∙ take_all 16 text (omega arith)

  module _ (text : List ℕ) (text_bytes : AreBytes text) (r : ℕ) (cut : Pieces text r) where
    abbrev front : List ℕ
    front = whole_blocks text r cut

    abbrev piece : List ℕ
    piece = last_piece text r cut

    abbrev block : ℕ → List ℕ
    block = λ j. cbc_block encrypt iv front (suc j)

    -- the block that is stolen from
    abbrev previous : List ℕ
    previous = cbc_block encrypt iv front (r + 1)

    abbrev final : List ℕ
    final = encrypt (xor_bytes (zero_filled 16 piece) previous)

    abbrev stolen : List ℕ
    stolen = first_blocks block r ++ final ++ take (length piece) previous

    few : length piece ≤ 16
    few = omega (arith, length-last_piece text r cut, cut.more, cut.most)

    previous_sound : (length previous ≡ 16) × AreBytes previous
    previous_sound = sound front (AreBytes-take (16 * (r + 1)) text text_bytes) (r + 1) (omega (arith, length-whole_blocks text r cut))

    length-blocks : length (first_blocks block r) ≡ 16 * r
    length-blocks = length-first_blocks 16 block r (length-cbc_block encrypt iv front cipher.sizes)

    length-joined : length (first_blocks block r ++ final) ≡ 16 * (r + 1)
    length-joined = length-append (first_blocks block r) final ∙ omega (arith, length-blocks, cipher.sizes (xor_bytes (zero_filled 16 piece) previous))

    pub length-stolen : length stolen ≡ length text
    length-stolen =
        length-append (first_blocks block r ++ final) (take (length piece) previous)
        ∙ omega (arith, length-joined, length-take-le (length piece) previous (omega (arith, few, previous_sound.0)), length-last_piece text r cut, cut.more)

    cut_again : Pieces stolen r
    cut_again = record { more = omega (arith, length-stolen, cut.more); most = omega (arith, length-stolen, cut.most) }

    -- the three parts of the ciphertext
    taken : take (16 * r) stolen ≡ first_blocks block r
    taken =
        ap (take (16 * r)) (append_assoc (first_blocks block r) final (take (length piece) previous))
        ∙ take_at (first_blocks block r) (final ++ take (length piece) previous) (16 * r) length-blocks

    middle : block_at 16 stolen r ≡ final
    unfolding block_at
    middle =
        ap (λ zs. take 16 (drop (16 * r) zs)) (append_assoc (first_blocks block r) final (take (length piece) previous))
        ∙ ap (take 16) (drop_at (first_blocks block r) (final ++ take (length piece) previous) (16 * r) length-blocks)
        ∙ take_at final (take (length piece) previous) 16 (cipher.sizes (xor_bytes (zero_filled 16 piece) previous))

    rest : drop (16 * (r + 1)) stolen ≡ take (length piece) previous
    rest = drop_at (first_blocks block r ++ final) (take (length piece) previous) (16 * (r + 1)) length-joined

    -- the last block of the text, filled and masked, is a block of bytes
    masked_size : length (xor_bytes (zero_filled 16 piece) previous) ≡ 16
    masked_size =
        let size : length (zero_filled 16 piece) ≡ 16 = length-zero_filled 16 piece few in
        length-xor_bytes (zero_filled 16 piece) previous (size ∙ sym previous_sound.0) ∙ size

    masked_bytes : AreBytes (xor_bytes (zero_filled 16 piece) previous)
    masked_bytes =
        AreBytes-xor_bytes (zero_filled 16 piece) previous (AreBytes-zero_filled 16 piece (AreBytes-drop (16 * (r + 1)) text text_bytes)) previous_sound.1

    -- so the ciphertext is bytes
    stolen_bytes : AreBytes stolen
    stolen_bytes =
        AreBytes-append (first_blocks block r ++ final) (take (length piece) previous)
        (AreBytes-append (first_blocks block r) final
        (AreBytes-first_blocks block r (λ j low. (sound front (AreBytes-take (16 * (r + 1)) text text_bytes) (suc j) (omega (arith, length-whole_blocks text r cut))).1))
        (cipher.bytes (xor_bytes (zero_filled 16 piece) previous) masked_size masked_bytes))
        (AreBytes-take (length piece) previous previous_sound.1)

    -- decrypted, it is masked again
    unmasked : decrypt (block_at 16 stolen r) ≡ xor_bytes (zero_filled 16 piece) previous
    unmasked = ap decrypt middle ∙ cipher.undone (xor_bytes (zero_filled 16 piece) previous) masked_size masked_bytes

    whole_again : completed (drop (16 * (r + 1)) stolen) (decrypt (block_at 16 stolen r)) ≡ previous
    unfolding zero_filled
    whole_again =
        let size : length (take (length piece) previous) ≡ length piece = length-take-le (length piece) previous (omega (arith, few, previous_sound.0)) in
        (λ i. completed (rest i) (unmasked i))
        ∙ ap (λ k. take (length piece) previous ++ drop k (xor_bytes (zero_filled 16 piece) previous)) size
        ∙ ap (λ zs. take (length piece) previous ++ zs) (drop_filled piece previous (16 - length piece) (omega (arith, few, previous_sound.0)))
        ∙ take-append-drop (length piece) previous

    piece_again : xor_bytes (decrypt (block_at 16 stolen r)) (drop (16 * (r + 1)) stolen) ≡ piece
    unfolding zero_filled
    piece_again =
        (λ i. xor_bytes (unmasked i) (rest i)) ∙ xor_filled piece previous (16 - length piece) (omega (arith, few, previous_sound.0))

    blocks_again : take (16 * r) stolen ++ completed (drop (16 * (r + 1)) stolen) (decrypt (block_at 16 stolen r)) ≡ first_blocks block (r + 1)
    blocks_again =
        let last : r + 1 ≡ suc r = omega arith in
        (λ i. taken i ++ whole_again i) ∙ ap (λ k. first_blocks block r ++ cbc_block encrypt iv front k) last ∙ sym (first_blocks_more block r)

    undone_long : cs3_decrypted decrypt iv (cs3_encrypted encrypt iv text) ≡ text
    undone_long =
        ap (cs3_decrypted decrypt iv) (cs3_encrypted_long encrypt iv text r cut ∙ stealing_is text r cut encrypt iv)
        ∙ cs3_decrypted_long decrypt iv stolen r cut_again
        ∙ unstealing_is decrypt iv stolen r
        ∙ (λ i. first_blocks (plain_block decrypt iv (blocks_again i)) (r + 1) ++ piece_again i)
        ∙ ap (λ zs. zs ++ piece) (chained front (AreBytes-take (16 * (r + 1)) text text_bytes) (r + 1) (length-whole_blocks text r cut))
        ∙ take-append-drop (16 * (r + 1)) text

  pub undone : (text : List ℕ) → AreBytes text → 16 ≤ length text → cs3_decrypted decrypt iv (cs3_encrypted encrypt iv text) ≡ text
  undone text text_bytes some =
      elim (cases_eq (length text) 16) [
        | inl short ↦ undone_short text text_bytes short
        | inr long ↦ undone_long text text_bytes ((length text - 1) / 16 - 1) (pieces text some long)
      ]

  -- a text of bytes is encrypted to bytes
  pub cs3_encrypted-AreBytes : (text : List ℕ) → AreBytes text → 16 ≤ length text → AreBytes (cs3_encrypted encrypt iv text)
  cs3_encrypted-AreBytes text text_bytes some =
      elim (cases_eq (length text) 16) [
        | inl short ↦ subst AreBytes (sym (cs3_encrypted_short encrypt iv text short)) (sound text text_bytes 1 (omega arith)).1
        | inr long ↦
            let r : ℕ = (length text - 1) / 16 - 1 in
            let cut : Pieces text r = pieces text some long in
            subst AreBytes (sym (cs3_encrypted_long encrypt iv text r cut ∙ stealing_is text r cut encrypt iv)) (stolen_bytes text text_bytes r cut)
      ]
