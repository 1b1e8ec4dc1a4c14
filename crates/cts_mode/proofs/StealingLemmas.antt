-- What ciphertext stealing is, by the whole blocks before the last piece, and the last piece.
use Rattle.std.proofs.Common.{◌≡◌, ◌≢◌, ℕ, suc, ◌+◌, ◌*◌, ◌-◌, ◌/◌, ◌≤◌, ◌<◌, List, [], ◌∷◌, ◌++◌, length, take, drop, replicate, refl, ap, sym, ◌∙◌, arith, length-append, length-drop, cond}
use Rattle.std.proofs.lemmas.List.{append-nil, take_all, take_at, drop_at, drop_all, length-take-le, take-append-le, drop-append-le, take-take}
use Rattle.std.proofs.lemmas.Bool.{eq-eqb, ne_eqb}
use Rattle.std.proofs.lemmas.Nat.{xor_comm}
use borrow.Rule.Slice.PartMut.{put_mid}
use Rattle.std.specs.Int.{div_ceil}
use Rattle.byte_words.specs.Xor.{xor_bytes, zero_filled}
use Rattle.byte_words.specs.Blocks.{block_at, first_blocks}
use Rattle.byte_words.proofs.BlockLemmas.{first_blocks_more, first_blocks_same, length-first_blocks}
use Rattle.byte_words.proofs.XorLemmas.{length-zero_filled}
use Rattle.cts_mode.specs.Cbc.{cbc_block, plain_block}
use Rattle.cts_mode.specs.CbcStealing.{stealing, cs3_encrypted, unstealing, cs3_decrypted}
use Rattle.cts_mode.proofs.CbcLemmas.{cbc_block_suc, cbc_block_same, block_at_front}

-- a text of r + 2 blocks, of which the last may be cut
pub record Pieces (text : List ℕ) (r : ℕ) : Type 0 where
  pub more : 16 * (r + 1) < length text
  pub most : length text ≤ 16 * (r + 2)

pub pieces : (text : List ℕ) → 16 ≤ length text → (length text ≢ 16) → Pieces text ((length text - 1) / 16 - 1)
pieces text some long = record { more = omega arith; most = omega arith }

count_is : (n r : ℕ) → 16 * (r + 1) < n → n ≤ 16 * (r + 2) → div_ceil n 16 ≡ r + 2
count_is n r more most = omega arith

pub cs3_encrypted_short : (encrypt : List ℕ → List ℕ) (iv text : List ℕ) → length text ≡ 16 → cs3_encrypted encrypt iv text ≡ cbc_block encrypt iv text 1
unfolding cs3_encrypted
cs3_encrypted_short encrypt iv text short = ap (λ b. cond b (cbc_block encrypt iv text 1) (stealing encrypt iv text (div_ceil (length text) 16))) (eq-eqb (length text) 16 short)

pub cs3_encrypted_long : (encrypt : List ℕ → List ℕ) (iv text : List ℕ) (r : ℕ) → Pieces text r → cs3_encrypted encrypt iv text ≡ stealing encrypt iv text (r + 2)
unfolding cs3_encrypted
cs3_encrypted_long encrypt iv text r pieces =
    ap (λ b. cond b (cbc_block encrypt iv text 1) (stealing encrypt iv text (div_ceil (length text) 16))) (ne_eqb (length text) 16 (λ e. omega arith))
    ∙ ap (stealing encrypt iv text) (count_is (length text) r pieces.more pieces.most)

pub cs3_decrypted_short : (decrypt : List ℕ → List ℕ) (iv text : List ℕ) → length text ≡ 16 → cs3_decrypted decrypt iv text ≡ plain_block decrypt iv text 0
unfolding cs3_decrypted
cs3_decrypted_short decrypt iv text short = ap (λ b. cond b (plain_block decrypt iv text 0) (unstealing decrypt iv text (div_ceil (length text) 16))) (eq-eqb (length text) 16 short)

pub cs3_decrypted_long : (decrypt : List ℕ → List ℕ) (iv text : List ℕ) (r : ℕ) → Pieces text r → cs3_decrypted decrypt iv text ≡ unstealing decrypt iv text (r + 2)
unfolding cs3_decrypted
cs3_decrypted_long decrypt iv text r pieces =
    ap (λ b. cond b (plain_block decrypt iv text 0) (unstealing decrypt iv text (div_ceil (length text) 16))) (ne_eqb (length text) 16 (λ e. omega arith))
    ∙ ap (unstealing decrypt iv text) (count_is (length text) r pieces.more pieces.most)

module _ (text : List ℕ) (r : ℕ) (pieces : Pieces text r) where
  -- the whole blocks before the last piece, and the last piece
  abbrev pub whole_blocks : List ℕ
  whole_blocks = take (16 * (r + 1)) text

  abbrev pub last_piece : List ℕ
  last_piece = drop (16 * (r + 1)) text

  pub length-whole_blocks : length whole_blocks ≡ 16 * (r + 1)
  length-whole_blocks = length-take-le (16 * (r + 1)) text (omega (arith, pieces.more))

  pub length-last_piece : length last_piece ≡ length text - 16 * (r + 1)
  length-last_piece = length-drop (16 * (r + 1)) text

  -- the blocks before the last of the filled text
  pub filled_front : (j : ℕ) → j < r + 1 → block_at 16 whole_blocks j ≡ block_at 16 (zero_filled (16 * (r + 2)) text) j
  unfolding zero_filled
  filled_front j low =
      ap (λ xs. block_at 16 xs j) (sym (take-append-le (16 * (r + 1)) text (replicate (16 * (r + 2) - length text) 0) (omega (arith, pieces.more))))
      ∙ block_at_front (text ++ replicate (16 * (r + 2) - length text) 0) (16 * (r + 1)) j (omega arith)

  -- and the last one
  pub filled_last : block_at 16 (zero_filled (16 * (r + 2)) text) (r + 1) ≡ zero_filled 16 last_piece
  unfolding zero_filled block_at
  filled_last =
      let zeros : 16 * (r + 2) - length text ≡ 16 - length last_piece = omega (arith, length-last_piece, pieces.more, pieces.most) in
      let few : length last_piece ≤ 16 = omega (arith, length-last_piece, pieces.more, pieces.most) in
      ap (take 16) (drop-append-le (16 * (r + 1)) text (replicate (16 * (r + 2) - length text) 0) (omega (arith, pieces.more)))
      ∙ ap (λ k. take 16 (last_piece ++ replicate k 0)) zeros
      ∙ whole_block last_piece few
    where
      whole_block : (xs : List ℕ) → length xs ≤ 16 → take 16 (xs ++ replicate (16 - length xs) 0) ≡ xs ++ replicate (16 - length xs) 0
      whole_block xs few = take_all 16 (zero_filled 16 xs) (omega (arith, length-zero_filled 16 xs few))

  module _ (encrypt : List ℕ → List ℕ) (iv : List ℕ) where
    chained_front : (j : ℕ) → j ≤ r + 1 → cbc_block encrypt iv (zero_filled (16 * (r + 2)) text) j ≡ cbc_block encrypt iv whole_blocks j
    chained_front j low = sym (cbc_block_same encrypt iv whole_blocks (zero_filled (16 * (r + 2)) text) j (λ n below. filled_front n (omega arith)))

    chained_last : cbc_block encrypt iv (zero_filled (16 * (r + 2)) text) (r + 2) ≡ encrypt (xor_bytes (zero_filled 16 last_piece) (cbc_block encrypt iv whole_blocks (r + 1)))
    chained_last =
        let next : r + 2 ≡ suc (r + 1) = omega arith in
        ap (cbc_block encrypt iv (zero_filled (16 * (r + 2)) text)) next
        ∙ cbc_block_suc encrypt iv (zero_filled (16 * (r + 2)) text) (r + 1)
        ∙ (λ i. encrypt (xor_bytes (filled_last i) (chained_front (r + 1) (omega arith) i)))

    -- what is written: all blocks of the front but the last, the last block, and what is left of that one
    pub stealing_is : stealing encrypt iv text (r + 2) ≡ first_blocks (λ j. cbc_block encrypt iv whole_blocks (suc j)) r ++ encrypt (xor_bytes (zero_filled 16 last_piece) (cbc_block encrypt iv whole_blocks (r + 1))) ++ take (length last_piece) (cbc_block encrypt iv whole_blocks (r + 1))
    stealing_is =
        let block = cbc_block encrypt iv (zero_filled (16 * (r + 2)) text) in
        let two : r + 2 - 2 ≡ r = omega arith in
        let one : r + 2 - 1 ≡ r + 1 = omega arith in
        let left : length text - 16 * (r + 1) ≡ length last_piece = sym length-last_piece in
        let fronts : first_blocks (λ j. block (suc j)) (r + 2 - 2) ≡ first_blocks (λ j. cbc_block encrypt iv whole_blocks (suc j)) r
        = ap (first_blocks (λ j. block (suc j))) two
        ∙ first_blocks_same (λ j. block (suc j)) (λ j. cbc_block encrypt iv whole_blocks (suc j)) r (λ j low. chained_front (suc j) (omega arith)) in
        let tails : take (length text - 16 * (r + 2 - 1)) (block (r + 2 - 1)) ≡ take (length last_piece) (cbc_block encrypt iv whole_blocks (r + 1))
        = ap (λ k. take (length text - 16 * k) (block k)) one
        ∙ (λ i. take (left i) (chained_front (r + 1) (omega arith) i)) in
        (λ i. fronts i ++ chained_last i ++ tails i)

-- the last of the whole blocks is written over
pub last_over : (block : ℕ → List ℕ) (r at count : ℕ) (xs ys : List ℕ) → ((j : ℕ) → length (block j) ≡ 16) → xs ≡ first_blocks block (r + 1) → at ≡ 16 * r → count ≡ 16 → put_mid at count xs ys ≡ first_blocks block r ++ ys
last_over block r at count xs ys sizes is begins counts =
    let front : length (first_blocks block r) ≡ at = length-first_blocks 16 block r sizes ∙ sym begins in
    let joined : xs ≡ first_blocks block r ++ block r = is ∙ first_blocks_more block r in
    let before : take at xs ≡ first_blocks block r = ap (take at) joined ∙ take_at (first_blocks block r) (block r) at front in
    let after : drop at xs ≡ block r = ap (drop at) joined ∙ drop_at (first_blocks block r) (block r) at front in
    let rest : drop count (drop at xs) ≡ [] = ap (drop count) after ∙ drop_all count (block r) (omega (arith, sizes r)) in
    (λ i. before i ++ (ys ++ rest i)) ∙ ap (λ zs. first_blocks block r ++ zs) (append-nil ys)

-- a list and as much of another, xored
pub xor_taken : (xs ys : List ℕ) → xor_bytes xs (take (length xs) ys) ≡ xor_bytes ys xs
unfolding xor_bytes
xor_taken [] [] = refl
xor_taken [] (y ∷ ys) = refl
xor_taken (x ∷ xs) [] = refl
xor_taken (x ∷ xs) (y ∷ ys) = (λ i. xor_comm x y i ∷ xor_taken xs ys i)

-- the end of a list is written over
pub end_over : (text xs ys : List ℕ) (r at count : ℕ) → 16 * (r + 1) ≤ length text → xs ≡ take (16 * (r + 1)) text → at ≡ 16 * r → count ≡ 16 → put_mid at count xs ys ≡ take (16 * r) text ++ ys
end_over text xs ys r at count within is begins counts =
    let before : take at xs ≡ take (16 * r) text
    = (λ i. take (begins i) (is i)) ∙ take-take (16 * r) (16 * (r + 1)) text (omega arith) in
    let size : length xs ≡ 16 * (r + 1) = ap length is ∙ length-take-le (16 * (r + 1)) text within in
    let rest : drop count (drop at xs) ≡ [] = drop_all count (drop at xs) (omega (arith, length-drop at xs)) in
    (λ i. before i ++ (ys ++ rest i)) ∙ ap (λ zs. take (16 * r) text ++ zs) (append-nil ys)

-- C_(m-1) as it is put together
abbrev pub completed : List ℕ → List ℕ → List ℕ
completed piece last_plain = piece ++ drop (length piece) last_plain

pub length-completed : (piece last_plain : List ℕ) → length piece ≤ 16 → length last_plain ≡ 16 → length (completed piece last_plain) ≡ 16
length-completed piece last_plain few whole = length-append piece (drop (length piece) last_plain) ∙ omega (arith, length-drop (length piece) last_plain)

-- what the decrypted text is, by the whole blocks and the last piece
pub unstealing_is : (decrypt : List ℕ → List ℕ) (iv text : List ℕ) (r : ℕ) → unstealing decrypt iv text (r + 2) ≡ first_blocks (plain_block decrypt iv (take (16 * r) text ++ completed (drop (16 * (r + 1)) text) (decrypt (block_at 16 text r)))) (r + 1) ++ xor_bytes (decrypt (block_at 16 text r)) (drop (16 * (r + 1)) text)
unstealing_is decrypt iv text r =
    let two : r + 2 - 2 ≡ r = omega arith in
    let one : r + 2 - 1 ≡ r + 1 = omega arith in
    let parts : ℕ → ℕ → List ℕ
    = λ a b. first_blocks (plain_block decrypt iv (take (16 * b) text ++ completed (drop (16 * a) text) (decrypt (block_at 16 text b)))) a ++ xor_bytes (decrypt (block_at 16 text b)) (drop (16 * a) text) in
    (λ i. parts (one i) (two i))
