-- Lists of blocks of which some are made again, and the stored blocks after a piece was written.
use Rattle.std.proofs.Common.{◌≡◌, ◌⊎◌, ℕ, zero, suc, ◌+◌, ◌-◌, ◌*◌, ◌<◌, ◌≤◌, ◌&&◌, Bool, true, false, cond, List, [], ◌++◌, length, get_or, set, replicate, inl, inr, refl, ap, sym, ◌∙◌, arith, length-append}
use Rattle.std.specs.Prelude.{max, nat_le, nat_lt, Option}
use Rattle.std.proofs.lemmas.Bool.{cases_lt, cases_eq, le-ltb, lt-ltb, le-leb, lt-leb}
use Rattle.std.proofs.lemmas.List.{ext_get_or, get_or_append_left, get_or-append_right, get_or-replicate, get_or-set_same, get_or-set_other, length-replicate, length-set, get_or_past}
use Rattle.std.proofs.lemmas.List.FromFn.{length-map-range_with_len, get_or-map-range_with_len}
use Rattle.byte_words.specs.Bytes.{AreBytes}
use Rattle.byte_words.specs.Contents.{with_bytes}
use Rattle.byte_words.proofs.ContentsLemmas.{length-with_bytes}
use Rattle.data_crypt.specs.Blocks.{Seal, block_count, plain_block, stored_block, read_block, blocks_by, stored_blocks}
use Rattle.data_crypt.specs.Laws.{IsKeyOfBytes, Covers}
use Rattle.data_crypt.specs.Parts.{block_with, edited, rewritten}
use Rattle.data_crypt.proofs.ContentsLemmas.{count_high, count_low, length-blocks_by, get_or-blocks_by, read_block-stored_block, plain_block-IsContentsBlock}
use Rattle.data_crypt.proofs.WriteLemmas.{same_plain, plain_block-with_bytes, plain_untouched}

either : {A : Type 0} (b : Bool) (x y : A) → cond (b && false) x y ≡ y
either true x y = refl
either false x y = refl

-- ---- some blocks made again

module _ (made : ℕ → List ℕ → List ℕ) (first : ℕ) where
  pub length-edited : (end : ℕ) (blocks : List (List ℕ)) → length (edited made first end blocks) ≡ length blocks
  unfolding edited
  length-edited end blocks = length-map-range_with_len _ 0 (length blocks)

  get_or-edited : (end : ℕ) (blocks : List (List ℕ)) (j : ℕ) → j < length blocks →
      get_or (edited made first end blocks) j [] ≡ cond (nat_le first j && nat_lt j end) (made j (get_or blocks j [])) (get_or blocks j [])
  unfolding edited
  get_or-edited end blocks j low =
      get_or-map-range_with_len (λ k. cond (nat_le first k && nat_lt k end) (made k (get_or blocks k [])) (get_or blocks k [])) 0 (length blocks) j j [] low (omega arith)

  pub edited_before : (end : ℕ) (blocks : List (List ℕ)) (j : ℕ) → j < length blocks → j < first → get_or (edited made first end blocks) j [] ≡ get_or blocks j []
  edited_before end blocks j low before =
      let test : nat_le first j ≡ false = lt-leb first j before in
      get_or-edited end blocks j low ∙ ap (λ b. cond (b && nat_lt j end) (made j (get_or blocks j [])) (get_or blocks j [])) test

  pub edited_in : (end : ℕ) (blocks : List (List ℕ)) (j : ℕ) → j < length blocks → first ≤ j → j < end → get_or (edited made first end blocks) j [] ≡ made j (get_or blocks j [])
  edited_in end blocks j low from to =
      let begun : nat_le first j ≡ true = le-leb first j from in
      let ends : nat_lt j end ≡ true = lt-ltb j end to in
      get_or-edited end blocks j low ∙ (λ i. cond (begun i && ends i) (made j (get_or blocks j [])) (get_or blocks j []))

  pub edited_after : (end : ℕ) (blocks : List (List ℕ)) (j : ℕ) → j < length blocks → end ≤ j → get_or (edited made first end blocks) j [] ≡ get_or blocks j []
  edited_after end blocks j low behind =
      let ends : nat_lt j end ≡ false = le-ltb j end behind in
      get_or-edited end blocks j low ∙ ap (λ b. cond (nat_le first j && b) (made j (get_or blocks j [])) (get_or blocks j [])) ends ∙ either (nat_le first j) (made j (get_or blocks j [])) (get_or blocks j [])

  pub edited_none : (blocks : List (List ℕ)) → edited made first first blocks ≡ blocks
  edited_none blocks =
      ext_get_or [] (edited made first first blocks) blocks (length-edited first blocks)
      (λ j within. let low : j < length blocks = omega (arith, length-edited first blocks) in
      elim (cases_lt j first) [
        | inl before ↦ edited_before first blocks j low before
        | inr behind ↦ edited_after first blocks j low behind
      ])

  -- the next block is made again
  pub edited_more : (j : ℕ) (blocks : List (List ℕ)) (block : List ℕ) → first ≤ j → j < length blocks → block ≡ made j (get_or (edited made first j blocks) j []) →
      set (edited made first j blocks) j block ≡ edited made first (j + 1) blocks
  edited_more j blocks block from low is =
      ext_get_or [] (set (edited made first j blocks) j block) (edited made first (j + 1) blocks)
      (length-set (edited made first j blocks) j block ∙ length-edited j blocks ∙ sym (length-edited (j + 1) blocks))
      (λ k within.
      let below : k < length blocks = omega (arith, length-set (edited made first j blocks) j block, length-edited j blocks) in
      elim (cases_eq k j) [
        | inl same ↦
            let here : get_or (set (edited made first j blocks) j block) j [] ≡ block = get_or-set_same (edited made first j blocks) j block [] (omega (arith, length-edited j blocks)) in
            let was : get_or (edited made first j blocks) j [] ≡ get_or blocks j [] = edited_after j blocks j low (omega arith) in
            ap (λ n. get_or (set (edited made first j blocks) j block) n []) same ∙ here ∙ is ∙ ap (made j) was
            ∙ sym (edited_in (j + 1) blocks j low from (omega arith)) ∙ ap (λ n. get_or (edited made first (j + 1) blocks) n []) (sym same)
        | inr other ↦
            get_or-set_other (edited made first j blocks) j k block [] other ∙ elim (cases_lt k first) as (λ _. get_or (edited made first j blocks) k [] ≡ get_or (edited made first (j + 1) blocks) k []) [
              | inl before ↦ edited_before j blocks k below before ∙ sym (edited_before (j + 1) blocks k below before)
              | inr behind ↦ elim (cases_lt k j) [
                | inl to ↦ edited_in j blocks k below behind to ∙ sym (edited_in (j + 1) blocks k below behind (omega arith))
                | inr past ↦ edited_after j blocks k below past ∙ sym (edited_after (j + 1) blocks k below (omega arith))
              ]
            ]
      ])

-- ---- the blocks after bytes were written

pub count-with_bytes : (at : ℕ) (bytes contents : List ℕ) (end : ℕ) → 0 < length bytes → at + length bytes ≤ 4096 * end → 4096 * end < at + length bytes + 4096 →
    block_count (with_bytes at bytes contents) ≡ max (block_count contents) end
count-with_bytes at bytes contents end some reaches ends =
    omega (arith, length-with_bytes at bytes contents some, count_high contents, count_low contents, count_high (with_bytes at bytes contents), count_low (with_bytes at bytes contents))

-- past the end of the contents a block is zeros
pub plain_past : (contents zeros : List ℕ) (j : ℕ) → block_count contents ≤ j → length zeros ≡ 4096 → ((i : ℕ) → get_or zeros i 0 ≡ 0) → zeros ≡ plain_block contents j
plain_past contents zeros j past size are =
    same_plain contents zeros j size (λ i low. are i ∙ sym (get_or_past contents (4096 * j + i) 0 (omega (arith, count_high contents))))

module _ (store read : ℕ → List ℕ → List ℕ) (at : ℕ) (bytes contents : List ℕ) where
  rewritten_old : (had j : ℕ) (block : List ℕ) → j < had → rewritten store read had at bytes j block ≡ store j (block_with at bytes j (read j block))
  unfolding rewritten
  rewritten_old had j block low = ap (λ b. store j (block_with at bytes j (cond b (read j block) block))) (lt-ltb j had low)

  rewritten_new : (had j : ℕ) (block : List ℕ) → had ≤ j → rewritten store read had at bytes j block ≡ store j (block_with at bytes j block)
  unfolding rewritten
  rewritten_new had j block past = ap (λ b. store j (block_with at bytes j (cond b (read j block) block))) (le-ltb j had past)

  abbrev written : List ℕ
  written = with_bytes at bytes contents

  module _ (first end : ℕ) (zeros : List ℕ) (some : 0 < length bytes) (covers : Covers first end at (length bytes) (block_count contents))
      (size : length zeros ≡ 4096) (are : (i : ℕ) → get_or zeros i 0 ≡ 0)
      (back : (j : ℕ) → j < block_count contents → read j (store j (plain_block contents j)) ≡ plain_block contents j) where
    abbrev old : List (List ℕ)
    old = blocks_by store contents ++ replicate (end - block_count contents) zeros

    length-old : length old ≡ max (block_count contents) end
    length-old =
        omega (arith, length-append (blocks_by store contents) (replicate (end - block_count contents) zeros), length-blocks_by store contents, length-replicate (end - block_count contents) zeros)

    old_there : (j : ℕ) → j < block_count contents → get_or old j [] ≡ store j (plain_block contents j)
    old_there j low =
        get_or_append_left (blocks_by store contents) (replicate (end - block_count contents) zeros) [] j (omega (arith, length-blocks_by store contents))
        ∙ get_or-blocks_by store contents j [] low

    old_new : (j : ℕ) → block_count contents ≤ j → j < end → get_or old j [] ≡ zeros
    old_new j past low =
        get_or-append_right (blocks_by store contents) (replicate (end - block_count contents) zeros) (block_count contents) j [] (length-blocks_by store contents) past
        ∙ get_or-replicate (end - block_count contents) (j - block_count contents) zeros [] (omega arith)

    wanted : (j : ℕ) → j < max (block_count contents) end → get_or (blocks_by store written) j [] ≡ store j (plain_block written j)
    wanted j low = get_or-blocks_by store written j [] (omega (arith, count-with_bytes at bytes contents end some covers.reaches covers.ends))

    abbrev now : List (List ℕ)
    now = edited (rewritten store read (block_count contents) at bytes) first end old

    outside : (j : ℕ) → j < block_count contents → (4096 * j + 4096 ≤ at) ⊎ (at + length bytes ≤ 4096 * j) → store j (plain_block contents j) ≡ store j (plain_block written j)
    outside j low apart = ap (store j) (plain_untouched at bytes contents j apart)

    inside : (j : ℕ) → first ≤ j → j < end → rewritten store read (block_count contents) at bytes j (get_or old j []) ≡ store j (plain_block written j)
    inside j from to =
        elim (cases_lt j (block_count contents)) [
          | inl low ↦
              rewritten_old (block_count contents) j (get_or old j []) low
              ∙ ap (λ b. store j (block_with at bytes j (read j b))) (old_there j low)
              ∙ ap (λ b. store j (block_with at bytes j b)) (back j low)
              ∙ ap (store j) (sym (plain_block-with_bytes at bytes contents j))
          | inr past ↦
              rewritten_new (block_count contents) j (get_or old j []) past
              ∙ ap (λ b. store j (block_with at bytes j b)) (old_new j past to ∙ plain_past contents zeros j past size are)
              ∙ ap (store j) (sym (plain_block-with_bytes at bytes contents j))
        ]

    each : (j : ℕ) → j < max (block_count contents) end → get_or now j [] ≡ store j (plain_block written j)
    each j within =
        let low : j < length old = omega (arith, length-old) in
        let made : ℕ → List ℕ → List ℕ = rewritten store read (block_count contents) at bytes in
        elim (cases_lt j first) [
          | inl before ↦
              edited_before made first end old j low before ∙ old_there j (omega (arith, covers.joins)) ∙ outside j (omega (arith, covers.joins)) (inl (omega (arith, covers.begins)))
          | inr from ↦ elim (cases_lt j end) [
            | inl to ↦ edited_in made first end old j low from to ∙ inside j from to
            | inr behind ↦
                edited_after made first end old j low behind ∙ old_there j (omega arith) ∙ outside j (omega arith) (inr (omega (arith, covers.reaches)))
          ]
        ]

    pub blocks_written : edited (rewritten store read (block_count contents) at bytes) first end (blocks_by store contents ++ replicate (end - block_count contents) zeros) ≡ blocks_by store (with_bytes at bytes contents)
    blocks_written =
        ext_get_or [] now (blocks_by store written)
        (length-edited (rewritten store read (block_count contents) at bytes) first end old ∙ length-old
        ∙ sym (length-blocks_by store written ∙ count-with_bytes at bytes contents end some covers.reaches covers.ends))
        (λ j within. let low : j < max (block_count contents) end = omega (arith, length-edited (rewritten store read (block_count contents) at bytes) first end old, length-old) in
        each j low ∙ sym (wanted j low))

zeros_are : (n i : ℕ) → get_or {A = ℕ} (replicate n 0) i 0 ≡ 0
zeros_are zero i = refl
zeros_are (suc n) zero = refl
zeros_are (suc n) (suc i) = zeros_are n i

zero_blocks : (zeros : List ℕ) → zeros ≡ replicate 4096 0 → (length zeros ≡ 4096) × ((i : ℕ) → get_or zeros i 0 ≡ 0)
zero_blocks zeros is = (ap length is ∙ length-replicate {A = ℕ} 4096 0, λ i. ap (λ zs. get_or zs i 0) is ∙ zeros_are 4096 i)

-- the same of the stored blocks of a file
pub stored_written : (seal : Option Seal) (at : ℕ) (bytes contents : List ℕ) (first end : ℕ) → IsKeyOfBytes seal → AreBytes contents → 0 < length bytes → Covers first end at (length bytes) (block_count contents) →
    edited (rewritten (stored_block seal) (read_block seal) (block_count contents) at bytes) first end (stored_blocks seal contents ++ replicate (end - block_count contents) (replicate 4096 0))
    ≡ stored_blocks seal (with_bytes at bytes contents)
stored_written seal at bytes contents first end key is some covers =
    let zeros = zero_blocks (replicate 4096 0) refl in
    blocks_written (stored_block seal) (read_block seal) at bytes contents first end (replicate 4096 0) some covers zeros.0 zeros.1
    (λ j low. read_block-stored_block seal j (plain_block contents j) key (plain_block-IsContentsBlock contents j is))
