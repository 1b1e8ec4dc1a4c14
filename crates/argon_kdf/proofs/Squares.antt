-- A block as a square: a row that is written word by word, a column that is a row of the transposed block.
use Rattle.std.proofs.Common.{◌≡◌, ℕ, ◌+◌, ◌*◌, ◌/◌, ◌%◌, ◌<◌, ◌≤◌, List, [], ◌∷◌, ◌++◌, length, take, drop}
use Rattle.std.proofs.Common.{slice_index, slice_index_or, slice_set, inl, inr, refl, sym, ap, ◌∙◌, arith}
use Rattle.std.proofs.Common.{add-one, length-set, get_or-set_same, get_or-set_other}
use Rattle.std.proofs.lemmas.Bool.{cases_eq}
use Rattle.std.proofs.lemmas.List.{same_lists, take-append-drop, take_more_set, drop-set-lt, append_assoc}
use Rattle.std.proofs.lemmas.List.{get_or_default}
use Rattle.std.proofs.lemmas.List.FromFn.{get_or-map-range_with_len}
use Rattle.argon_kdf.specs.Blocks.{first_rows_permuted, row_permuted, transposed}

pub first_rows_none : (block : List ℕ) → first_rows_permuted block 0 ≡ block
unfolding first_rows_permuted
first_rows_none block = refl

pub first_rows_next : (block : List ℕ) (n : ℕ)
    → first_rows_permuted block (n + 1) ≡ row_permuted (first_rows_permuted block n) n
unfolding first_rows_permuted
first_rows_next block n = rw add-one refl

-- ---- words written one after the other

-- the words are written from `at` and k on
unfoldable pub puts : List ℕ → ℕ → ℕ → List ℕ → List ℕ
puts block at k [] = block
puts block at k (v ∷ vs) = puts (slice_set block (at + k) v) at (k + 1) vs

pub puts_all : (vs block : List ℕ) (at k : ℕ) → at + k + length vs ≤ length block
    → puts block at k vs ≡ take (at + k) block ++ (vs ++ drop (at + k + length vs) block)
unfolding puts
puts_all [] block at k fits =
    let end : at + k + 0 ≡ at + k = omega arith in
    rw end (sym (take-append-drop (at + k) block))
puts_all (v ∷ vs) block at k fits =
    let now : List ℕ = slice_set block (at + k) v in
    let long : length now ≡ length block = length-set block (at + k) v in
    let next : at + (k + 1) ≡ at + k + 1 = omega arith in
    let end : at + k + length (v ∷ vs) ≡ at + k + 1 + length vs = omega arith in
    let front : take (at + k + 1) now ≡ take (at + k) block ++ v ∷ [] =
    take_more_set block (at + k) v (omega arith) in
    let back : drop (at + k + 1 + length vs) now ≡ drop (at + k + 1 + length vs) block =
    drop-set-lt (at + k + 1 + length vs) block (at + k) v (omega arith) in
    puts_all vs now at (k + 1) (omega arith) ∙ rw (next, front, back, end, append_assoc) refl

-- ---- transposed blocks

-- where word n of the transposed block is in the block
abbrev pub turned : ℕ → ℕ
turned n = 16 * (n % 16 / 2) + (2 * (n / 16) + n % 2)

turned-turned : (n : ℕ) → n < 128 → turned (turned n) ≡ n
turned-turned n low = omega arith

turned_low : (n : ℕ) → n < 128 → turned n < 128
turned_low n low = omega arith

length-transposed : (block : List ℕ) → length (transposed block) ≡ 128
unfolding transposed
length-transposed block = refl

get_or-transposed : (block : List ℕ) (n d : ℕ) → n < 128
    → slice_index_or (transposed block) n d ≡ slice_index block (turned n)
unfolding transposed
get_or-transposed block n d low =
    get_or-map-range_with_len (λ (k : ℕ). slice_index block (turned k)) 0 128 n n d low (omega arith)

pub transposed-transposed : (block : List ℕ) → length block ≡ 128 → transposed (transposed block) ≡ block
transposed-transposed block long =
    same_lists (transposed (transposed block)) block (length-transposed (transposed block) ∙ sym long)
    (λ n d h.
    let low : n < 128 = omega (arith, length-transposed (transposed block)) in
    get_or-transposed (transposed block) n d low ∙ get_or-transposed block (turned n) 0 (turned_low n low)
    ∙ ap (slice_index block) (turned-turned n low) ∙ get_or_default block n 0 d (omega arith))

transposed-set : (block : List ℕ) (m n v : ℕ) → length block ≡ 128 → m < 128 → n ≡ turned m
    → transposed (slice_set block m v) ≡ slice_set (transposed block) n v
transposed-set block m n v long low at =
    same_lists (transposed (slice_set block m v)) (slice_set (transposed block) n v)
    (length-transposed (slice_set block m v) ∙ sym
    (length-set (transposed block) n v ∙ length-transposed block)) (λ k d h.
    let inside : k < 128 = omega (arith, length-transposed (slice_set block m v)) in
    get_or-transposed (slice_set block m v) k d inside
    ∙ elim (cases_eq k n) [
      | inl here ↦
          let back : turned k ≡ m = rw (here, at) (turned-turned m low) in
          let within : n < length (transposed block) = omega (arith, length-transposed block) in
          rw (back, here) (get_or-set_same block m v 0 (omega arith)
          ∙ sym (get_or-set_same (transposed block) n v d within))
      | inr other ↦
          let apart : turned k ≡ m → ⊥ = λ e. other (sym (turned-turned k inside) ∙ ap turned e ∙ sym at) in
          get_or-set_other block m (turned k) v 0 apart
          ∙ sym (get_or-set_other (transposed block) n k v d other ∙ get_or-transposed block k d inside)
    ])

-- the words are written down column i, from its word k on
unfoldable pub puts_down : List ℕ → ℕ → ℕ → List ℕ → List ℕ
puts_down block i k [] = block
puts_down block i k (v ∷ vs) = puts_down (slice_set block (2 * i + (16 * (k / 2) + k % 2)) v) i (k + 1) vs

pub transposed-puts_down : (vs block : List ℕ) (i k : ℕ) → length block ≡ 128 → i < 8 → k + length vs ≤ 16
    → transposed (puts_down block i k vs) ≡ puts (transposed block) (16 * i) k vs
unfolding puts puts_down
transposed-puts_down [] block i k long column fits = refl
transposed-puts_down (v ∷ vs) block i k long column fits =
    let m : ℕ = 2 * i + (16 * (k / 2) + k % 2) in
    let now : List ℕ = slice_set block m v in
    let at : 16 * i + k ≡ turned m = omega arith in
    transposed-puts_down vs now i (k + 1) (length-set block m v ∙ long) column (omega arith)
    ∙ ap (λ (b : List ℕ). puts b (16 * i) (k + 1) vs)
    (transposed-set block m (16 * i + k) v long (omega arith) at)

-- ---- the sixteen writes of the program

pub row_written : (block v : List ℕ) (i : ℕ) → length block ≡ 128 → i < 8
    → slice_index v 0 ∷ slice_index v 1 ∷ slice_index v 2 ∷ slice_index v 3 ∷ slice_index v 4
    ∷ slice_index v 5 ∷ slice_index v 6 ∷ slice_index v 7 ∷ slice_index v 8 ∷ slice_index v 9
    ∷ slice_index v 10 ∷ slice_index v 11 ∷ slice_index v 12 ∷ slice_index v 13 ∷ slice_index v 14
    ∷ slice_index v 15 ∷ [] ≡ v
    → (slice_set (slice_set (slice_set (slice_set
    (slice_set (slice_set (slice_set (slice_set
    (slice_set (slice_set (slice_set (slice_set
    (slice_set (slice_set (slice_set (slice_set block (16 * i) (slice_index v 0)) (16 * i + 1)
    (slice_index v 1)) (16 * i + 2) (slice_index v 2)) (16 * i + 3) (slice_index v 3)) (16 * i + 4)
    (slice_index v 4)) (16 * i + 5) (slice_index v 5)) (16 * i + 6) (slice_index v 6)) (16 * i + 7)
    (slice_index v 7)) (16 * i + 8) (slice_index v 8)) (16 * i + 9) (slice_index v 9)) (16 * i + 10)
    (slice_index v 10)) (16 * i + 11) (slice_index v 11)) (16 * i + 12) (slice_index v 12)) (16 * i + 13)
    (slice_index v 13)) (16 * i + 14) (slice_index v 14)) (16 * i + 15) (slice_index v 15))
    ≡ take (16 * i) block ++ (v ++ drop (16 * i + 16) block)
unfolding puts
row_written block v i long low whole =
    let start : 16 * i + 0 ≡ 16 * i = omega arith in
    let vs : List ℕ = slice_index v 0 ∷ slice_index v 1 ∷ slice_index v 2 ∷ slice_index v 3 ∷ slice_index v 4
    ∷ slice_index v 5 ∷ slice_index v 6 ∷ slice_index v 7 ∷ slice_index v 8 ∷ slice_index v 9
    ∷ slice_index v 10 ∷ slice_index v 11 ∷ slice_index v 12 ∷ slice_index v 13 ∷ slice_index v 14
    ∷ slice_index v 15 ∷ [] in
    (rw start at (puts_all vs block (16 * i) 0 (omega arith)))
    ∙ ap (λ (w : List ℕ). take (16 * i) block ++ (w ++ drop (16 * i + 16) block)) whole

pub column_written : (block v : List ℕ) (i : ℕ) → length block ≡ 128 → i < 8
    → slice_index v 0 ∷ slice_index v 1 ∷ slice_index v 2 ∷ slice_index v 3 ∷ slice_index v 4
    ∷ slice_index v 5 ∷ slice_index v 6 ∷ slice_index v 7 ∷ slice_index v 8 ∷ slice_index v 9
    ∷ slice_index v 10 ∷ slice_index v 11 ∷ slice_index v 12 ∷ slice_index v 13 ∷ slice_index v 14
    ∷ slice_index v 15 ∷ [] ≡ v
    → transposed (slice_set (slice_set (slice_set
    (slice_set (slice_set (slice_set (slice_set
    (slice_set (slice_set (slice_set (slice_set
    (slice_set (slice_set (slice_set (slice_set (slice_set block (2 * i) (slice_index v 0)) (2 * i + 1)
    (slice_index v 1)) (2 * i + 16) (slice_index v 2)) (2 * i + 17) (slice_index v 3)) (2 * i + 32)
    (slice_index v 4)) (2 * i + 33) (slice_index v 5)) (2 * i + 48) (slice_index v 6)) (2 * i + 49)
    (slice_index v 7)) (2 * i + 64) (slice_index v 8)) (2 * i + 65) (slice_index v 9)) (2 * i + 80)
    (slice_index v 10)) (2 * i + 81) (slice_index v 11)) (2 * i + 96) (slice_index v 12)) (2 * i + 97)
    (slice_index v 13)) (2 * i + 112) (slice_index v 14)) (2 * i + 113) (slice_index v 15))
    ≡ take (16 * i) (transposed block) ++ (v ++ drop (16 * i + 16) (transposed block))
unfolding puts_down
column_written block v i long low whole =
    let start : 2 * i + 0 ≡ 2 * i = omega arith in
    let begin : 16 * i + 0 ≡ 16 * i = omega arith in
    let vs : List ℕ = slice_index v 0 ∷ slice_index v 1 ∷ slice_index v 2 ∷ slice_index v 3 ∷ slice_index v 4
    ∷ slice_index v 5 ∷ slice_index v 6 ∷ slice_index v 7 ∷ slice_index v 8 ∷ slice_index v 9
    ∷ slice_index v 10 ∷ slice_index v 11 ∷ slice_index v 12 ∷ slice_index v 13 ∷ slice_index v 14
    ∷ slice_index v 15 ∷ [] in
    (rw start at (transposed-puts_down vs block i 0 long low (omega arith)))
    ∙ (rw begin at (puts_all vs (transposed block) (16 * i) 0 (omega (arith, length-transposed block))))
    ∙ ap (λ (w : List ℕ). take (16 * i) (transposed block)
    ++ (w ++ drop (16 * i + 16) (transposed block))) whole

-- ---- the words that the program reads down a column

pub column_word : (block : List ℕ) (i k at : ℕ) → i < 8 → k < 16 → at ≡ 2 * i + (16 * (k / 2) + k % 2)
    → slice_index block at ≡ slice_index (transposed block) (16 * i + k)
column_word block i k at low inside is =
    let place : at ≡ turned (16 * i + k) = omega arith in
    ap (slice_index block) place ∙ sym (get_or-transposed block (16 * i + k) 0 (omega arith))
