-- A block that a piece covers is stored the same, whatever was there.
use Rattle.std.proofs.Common.{◌≡◌, ℕ, ◌+◌, ◌-◌, ◌*◌, ◌<◌, ◌≤◌, ◌&&◌, Bool, true, false, cond, List, ◌++◌, length, take}
use Rattle.std.proofs.Common.{drop, refl, ap, ◌∙◌, sym, arith, length-drop, true≢false}
use Rattle.std.specs.Prelude.{nat_le, nat_lt, Option}
use Rattle.std.proofs.lemmas.Bool.{le-ltb, lt-ltb, leb-true}
use Rattle.std.proofs.lemmas.List.{drop_all, append-nil, length-take}
use Rattle.byte_words.specs.Contents.{spliced}
use Rattle.data_crypt.specs.Blocks.{Seal, read_block, stored_block}
use Rattle.data_crypt.specs.Parts.{block_with, place_in, rewritten}
use Rattle.data_crypt.proofs.ContentsLemmas.{length-read_block}
use Rattle.file_disk.specs.Bodies.{covers_block, rewritten_block}

-- a piece that is as long as the list leaves nothing of it
spliced_all : (xs piece : List ℕ) → length xs ≤ length piece → spliced xs 0 piece ≡ piece
unfolding spliced
spliced_all xs piece all =
    ap (λ rest. piece ++ rest) (drop_all (0 + length piece) xs (omega arith)) ∙ append-nil piece

module _ (at : ℕ) (bytes : List ℕ) (j : ℕ) (begins : at ≤ 4096 * j)
    (reaches : 4096 * j + 4096 ≤ at + length bytes) where
  length-part : length (take 4096 (drop (4096 * j - at) bytes)) ≡ 4096
  length-part =
      omega (
        arith,
        length-take 4096 (drop (4096 * j - at) bytes),
        length-drop (4096 * j - at) bytes,
      )

  -- the block is its part of the bytes
  covered : (block : List ℕ) → length block ≡ 4096
      → block_with at bytes j block ≡ take 4096 (drop (4096 * j - at) bytes)
  unfolding block_with
  covered block size =
      let place : place_in at j ≡ 0 = omega arith in
      ap (λ p. spliced block p (take (4096 - p) (drop (4096 * j - at) bytes))) place
      ∙ spliced_all block (take 4096 (drop (4096 * j - at) bytes)) (omega (arith, length-part))

  covered_alike : (block other : List ℕ) → length block ≡ 4096 → length other ≡ 4096
      → block_with at bytes j block ≡ block_with at bytes j other
  covered_alike block other size alike = covered block size ∙ sym (covered other alike)

both : (a b : Bool) → (a && b) ≡ true → (a ≡ true) × (b ≡ true)
both true b is = (refl, is)
both false b is = absurd (true≢false (sym is))

-- what the test implies
covered_part : (at count j : ℕ) → covers_block at count j ≡ true
    → (at ≤ 4096 * j) × (4096 * j + 4096 ≤ at + count)
covered_part at count j covers =
    let (begins, reaches) = both (nat_le at (4096 * j)) (nat_le (4096 * j + 4096) (at + count)) covers in
    (leb-true at (4096 * j) begins, leb-true (4096 * j + 4096) (at + count) reaches)

-- a block that is read or left has its size
length-before : (seal : Option Seal) (is_old : Bool) (j : ℕ) (block : List ℕ) → length block ≡ 4096
    → length (cond is_old (read_block seal j block) block) ≡ 4096
length-before seal true j block size = length-read_block seal j block size
length-before seal false j block size = size

-- ---- what is stored

module _ (seal : Option Seal) (had at : ℕ) (bytes : List ℕ) (j : ℕ) (block : List ℕ) where
  -- a block that was there is read
  pub anew_read : j < had → stored_block seal j (block_with at bytes j (read_block seal j block))
      ≡ rewritten_block seal had at bytes j block
  unfolding rewritten
  anew_read low =
      ap (λ b. stored_block seal j (block_with at bytes j (cond b (read_block seal j block) block)))
      (sym (lt-ltb j had low))

  -- a new one is not
  pub anew_new : had ≤ j → stored_block seal j (block_with at bytes j block)
      ≡ rewritten_block seal had at bytes j block
  unfolding rewritten
  anew_new past =
      ap (λ b. stored_block seal j (block_with at bytes j (cond b (read_block seal j block) block)))
      (sym (le-ltb j had past))

  -- and one that the bytes cover need not be
  pub anew_covered : covers_block at (length bytes) j ≡ true → length block ≡ 4096
      → stored_block seal j (block_with at bytes j block) ≡ rewritten_block seal had at bytes j block
  unfolding rewritten
  anew_covered covers size =
      let (begins, reaches) = covered_part at (length bytes) j covers in
      ap (stored_block seal j)
      (covered_alike at bytes j begins reaches block
      (cond (nat_lt j had) (read_block seal j block) block) size
      (length-before seal (nat_lt j had) j block size))
