-- Bytes that are written into contents change each block by their part in it.
use Rattle.std.proofs.Common.{◌≡◌, ℕ, ◌+◌, ◌-◌, ◌*◌, ◌<◌, ◌≤◌, List, length, take, drop, get_or, inl, inr, ◌⊎◌, ap, sym, ◌∙◌, arith, length-drop}
use Rattle.std.proofs.lemmas.Bool.{cases_lt}
use Rattle.std.proofs.lemmas.Grind.{same_number_lists}
use Rattle.std.proofs.lemmas.List.{get_or-drop, get_or-take, length-take}
use Rattle.byte_words.specs.Blocks.{block_at}
use Rattle.byte_words.specs.Contents.{with_bytes}
use Rattle.byte_words.proofs.ContentsLemmas.{get_or-zero_filled, length-spliced, spliced_before, spliced_in, spliced_after, with_bytes_before, with_bytes_in, with_bytes_after}
use Rattle.data_crypt.specs.Blocks.{plain_block}
use Rattle.data_crypt.specs.Parts.{place_in, part_in, block_with}
use Rattle.data_crypt.proofs.ContentsLemmas.{length-plain_block}

pub get_or-plain_block : (contents : List ℕ) (j i : ℕ) → i < 4096 → get_or (plain_block contents j) i 0 ≡ get_or contents (4096 * j + i) 0
unfolding plain_block block_at
get_or-plain_block contents j i low =
    get_or-zero_filled 4096 (take 4096 (drop (4096 * j) contents)) i
    ∙ get_or-take 4096 (drop (4096 * j) contents) i 0 low ∙ get_or-drop (4096 * j) contents i 0

-- blocks whose bytes are those of the contents at their places
pub same_plain : (contents xs : List ℕ) (j : ℕ) → length xs ≡ 4096 → ((i : ℕ) → i < 4096 → get_or xs i 0 ≡ get_or contents (4096 * j + i) 0) → xs ≡ plain_block contents j
same_plain contents xs j size same =
    same_number_lists xs (plain_block contents j) (size ∙ sym (length-plain_block contents j))
    (λ i low. let below : i < 4096 = omega arith in same i below ∙ sym (get_or-plain_block contents j i below))

length-part : (at : ℕ) (bytes : List ℕ) (j : ℕ) → (length (part_in at bytes j) ≤ 4096 - place_in at j) × (length (part_in at bytes j) ≤ length bytes - (4096 * j - at))
length-part at bytes j =
    let cut : length (part_in at bytes j) ≡ _ = length-take (4096 - place_in at j) (drop (4096 * j - at) bytes) in
    let rest : length (drop (4096 * j - at) bytes) ≡ length bytes - (4096 * j - at) = length-drop (4096 * j - at) bytes in
    (omega arith, omega arith)

pub length-block_with : (at : ℕ) (bytes : List ℕ) (j : ℕ) (block : List ℕ) → length block ≡ 4096 → length (block_with at bytes j block) ≡ 4096
unfolding block_with
length-block_with at bytes j block size =
    let part = length-part at bytes j in
    let place : place_in at j ≤ 4096 = omega arith in
    omega (arith, length-spliced block (place_in at j) (part_in at bytes j) (omega arith))

module _ (at : ℕ) (bytes contents : List ℕ) (j : ℕ) (i : ℕ) (low : i < 4096) where
  place_fits : place_in at j ≤ length (plain_block contents j)
  place_fits = let size = length-plain_block contents j in omega arith

  before : 4096 * j + i < at → get_or (block_with at bytes j (plain_block contents j)) i 0 ≡ get_or (with_bytes at bytes contents) (4096 * j + i) 0
  unfolding block_with
  before early =
      spliced_before (plain_block contents j) (place_in at j) (part_in at bytes j) i place_fits (omega arith)
      ∙ get_or-plain_block contents j i low ∙ sym (with_bytes_before at bytes contents (4096 * j + i) early)

  inside : at ≤ 4096 * j + i → 4096 * j + i < at + length bytes → get_or (block_with at bytes j (plain_block contents j)) i 0 ≡ get_or (with_bytes at bytes contents) (4096 * j + i) 0
  unfolding block_with
  inside from to =
      let place : place_in at j ≤ i = omega arith in
      let cut : length (part_in at bytes j) ≡ _ = length-take (4096 - place_in at j) (drop (4096 * j - at) bytes) in
      let rest : length (drop (4096 * j - at) bytes) ≡ length bytes - (4096 * j - at) = length-drop (4096 * j - at) bytes in
      let index : 4096 * j - at + (i - place_in at j) ≡ 4096 * j + i - at = omega arith in
      spliced_in (plain_block contents j) (place_in at j) (part_in at bytes j) i place_fits place (omega arith)
      ∙ get_or-take (4096 - place_in at j) (drop (4096 * j - at) bytes) (i - place_in at j) 0 (omega arith)
      ∙ get_or-drop (4096 * j - at) bytes (i - place_in at j) 0
      ∙ ap (λ k. get_or bytes k 0) index
      ∙ sym (with_bytes_in at bytes contents (4096 * j + i) from to)

  after : at + length bytes ≤ 4096 * j + i → get_or (block_with at bytes j (plain_block contents j)) i 0 ≡ get_or (with_bytes at bytes contents) (4096 * j + i) 0
  unfolding block_with
  after late =
      let part = length-part at bytes j in
      spliced_after (plain_block contents j) (place_in at j) (part_in at bytes j) i place_fits (omega arith)
      ∙ get_or-plain_block contents j i low ∙ sym (with_bytes_after at bytes contents (4096 * j + i) late)

  each_byte : get_or (block_with at bytes j (plain_block contents j)) i 0 ≡ get_or (with_bytes at bytes contents) (4096 * j + i) 0
  each_byte =
      elim (cases_lt (4096 * j + i) at) [
        | inl early ↦ before early
        | inr from ↦ elim (cases_lt (4096 * j + i) (at + length bytes)) [
          | inl to ↦ inside from to
          | inr late ↦ after late
        ]
      ]

pub plain_block-with_bytes : (at : ℕ) (bytes contents : List ℕ) (j : ℕ) → plain_block (with_bytes at bytes contents) j ≡ block_with at bytes j (plain_block contents j)
plain_block-with_bytes at bytes contents j =
    sym (same_plain (with_bytes at bytes contents) (block_with at bytes j (plain_block contents j)) j (length-block_with at bytes j (plain_block contents j) (length-plain_block contents j))
    (λ i low. each_byte at bytes contents j i low))

-- a block before the bytes, and one after them, is as it was
pub plain_untouched : (at : ℕ) (bytes contents : List ℕ) (j : ℕ) → (4096 * j + 4096 ≤ at) ⊎ (at + length bytes ≤ 4096 * j) → plain_block contents j ≡ plain_block (with_bytes at bytes contents) j
plain_untouched at bytes contents j apart =
    same_plain (with_bytes at bytes contents) (plain_block contents j) j (length-plain_block contents j)
    (λ i low. get_or-plain_block contents j i low ∙ elim apart as (λ _. get_or contents (4096 * j + i) 0 ≡ get_or (with_bytes at bytes contents) (4096 * j + i) 0) [
      | inl early ↦ sym (with_bytes_before at bytes contents (4096 * j + i) (omega arith))
      | inr late ↦ sym (with_bytes_after at bytes contents (4096 * j + i) (omega arith))
    ])
