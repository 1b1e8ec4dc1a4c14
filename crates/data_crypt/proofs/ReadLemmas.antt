-- A part of some stored blocks, opened, is that part of the contents.
use Rattle.std.proofs.Common.{◌≡◌, ℕ, zero, suc, ◌+◌, ◌-◌, ◌*◌, ◌/◌, ◌<◌, ◌≤◌, List, [], length, take, drop, get_or, inl, inr, ap, sym, ◌∙◌, arith, length-drop}
use Rattle.std.specs.Prelude.{Option}
use Rattle.std.proofs.lemmas.Bool.{cases_lt}
use Rattle.std.proofs.lemmas.Grind.{same_number_lists}
use Rattle.std.proofs.lemmas.List.{get_or-drop, get_or-take, get_or_append_left, get_or-append_right, length-take}
use Rattle.byte_words.specs.Bytes.{AreBytes}
use Rattle.byte_words.specs.Blocks.{block_at, first_blocks}
use Rattle.byte_words.specs.Contents.{bytes_from}
use Rattle.byte_words.proofs.BlockLemmas.{length-first_blocks_below, first_blocks_same, block_at-first_blocks_below}
use Rattle.byte_words.proofs.ContentsLemmas.{length-bytes_from, get_or-bytes_from}
use Rattle.data_crypt.specs.Blocks.{Seal, block_count, plain_block, stored_block, read_block, stored_blocks}
use Rattle.data_crypt.specs.Laws.{IsKeyOfBytes}
use Rattle.data_crypt.specs.Parts.{blocks_joined, opened_text, content_of}
use Rattle.data_crypt.proofs.ContentsLemmas.{length-plain_block, length-stored_block, get_or-blocks_by, read_block-stored_block, plain_block-IsContentsBlock}
use Rattle.data_crypt.proofs.WriteLemmas.{get_or-plain_block}

-- a byte of blocks side by side, by its place
joined_byte : (f : ℕ → List ℕ) (g : ℕ → ℕ) (n : ℕ) → ((j : ℕ) → j < n → length (f j) ≡ 4096) → ((j r : ℕ) → r < 4096 → get_or (f j) r 0 ≡ g (4096 * j + r)) →
    (i : ℕ) → i < 4096 * n → get_or (first_blocks f n) i 0 ≡ g i
unfolding first_blocks
joined_byte f g zero sizes each i low = absurd (omega arith)
joined_byte f g (suc n) sizes each i low =
    let front : length (first_blocks f n) ≡ 4096 * n = length-first_blocks_below 4096 f n (λ j below. sizes j (omega arith)) in
    elim (cases_lt i (4096 * n)) [
      | inl early ↦
          get_or_append_left (first_blocks f n) (f n) 0 i (omega arith)
          ∙ joined_byte f g n (λ j below. sizes j (omega arith)) each i early
      | inr late ↦
          let place : 4096 * n + (i - 4096 * n) ≡ i = omega arith in
          get_or-append_right (first_blocks f n) (f n) (4096 * n) i 0 front late ∙ each n (i - 4096 * n) (omega arith) ∙ ap g place
    ]

module _ (seal : Option Seal) (contents : List ℕ) (from count : ℕ) (key : IsKeyOfBytes seal) (is : AreBytes contents) (within : from + count ≤ block_count contents) where
  abbrev stored : ℕ → List ℕ
  stored i = get_or (stored_blocks seal contents) (from + i) []

  stored_is : (i : ℕ) → i < count → stored i ≡ stored_block seal (from + i) (plain_block contents (from + i))
  stored_is i low = get_or-blocks_by (stored_block seal) contents (from + i) [] (omega arith)

  stored_size : (i : ℕ) → i < count → length (stored i) ≡ 4096
  stored_size i low = ap length (stored_is i low) ∙ length-stored_block seal (from + i) (plain_block contents (from + i)) (length-plain_block contents (from + i))

  text_size : length (blocks_joined (stored_blocks seal contents) from count) ≡ 4096 * count
  unfolding blocks_joined
  text_size = length-first_blocks_below 4096 stored count stored_size

  -- the blocks are opened one by one
  opened_is : opened_text seal from (blocks_joined (stored_blocks seal contents) from count) ≡ first_blocks (λ i. plain_block contents (from + i)) count
  unfolding opened_text blocks_joined
  opened_is =
      let text : List ℕ = first_blocks stored count in
      let blocks : length text / 4096 ≡ count = omega (arith, text_size) in
      ap (λ n. first_blocks (λ i. read_block seal (from + i) (block_at 4096 text i)) n) blocks
      ∙ first_blocks_same (λ i. read_block seal (from + i) (block_at 4096 text i)) (λ i. plain_block contents (from + i)) count
      (λ i low. ap (read_block seal (from + i)) (block_at-first_blocks_below 4096 stored count i stored_size low ∙ stored_is i low)
      ∙ read_block-stored_block seal (from + i) (plain_block contents (from + i)) key (plain_block-IsContentsBlock contents (from + i) is))

  plain_byte : (i : ℕ) → i < 4096 * count → get_or (first_blocks (λ i. plain_block contents (from + i)) count) i 0 ≡ get_or contents (4096 * from + i) 0
  plain_byte i low =
      joined_byte (λ j. plain_block contents (from + j)) (λ k. get_or contents (4096 * from + k) 0) count (λ j below. length-plain_block contents (from + j))
      (λ j r small. let place : 4096 * (from + j) + r ≡ 4096 * from + (4096 * j + r) = omega arith in
      get_or-plain_block contents (from + j) r small ∙ ap (λ k. get_or contents k 0) place) i low

  module _ (skip part : ℕ) (ends : 4096 * from + skip + part ≤ length contents) (covered : skip + part ≤ 4096 * count) where
    abbrev plain : List ℕ
    plain = first_blocks (λ i. plain_block contents (from + i)) count

    plain_size : length plain ≡ 4096 * count
    plain_size = length-first_blocks_below 4096 (λ i. plain_block contents (from + i)) count (λ j below. length-plain_block contents (from + j))

    cut_size : length (take part (drop skip plain)) ≡ part
    cut_size = omega (arith, length-take part (drop skip plain), length-drop skip plain, plain_size)

    pub content-stored : content_of seal from (blocks_joined (stored_blocks seal contents) from count) skip part ≡ bytes_from (4096 * from + skip) part contents
    content-stored =
        ap (λ text. take part (drop skip text)) opened_is
        ∙ same_number_lists (take part (drop skip plain)) (bytes_from (4096 * from + skip) part contents)
        (cut_size ∙ sym (omega (arith, length-bytes_from (4096 * from + skip) part contents)))
        (λ i low.
        let small : i < part = omega (arith, cut_size) in
        let place : 4096 * from + (skip + i) ≡ 4096 * from + skip + i = omega arith in
        get_or-take part (drop skip plain) i 0 small ∙ get_or-drop skip plain i 0 ∙ plain_byte (skip + i) (omega arith)
        ∙ ap (λ k. get_or contents k 0) place ∙ sym (get_or-bytes_from (4096 * from + skip) part contents i small))
