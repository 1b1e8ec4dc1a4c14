-- The key schedule by groups of four words.
use Rattle.std.proofs.Common.{◌≡◌, ℕ, suc, ◌+◌, ◌-◌, ◌*◌, ◌/◌, ◌%◌, ◌<◌, ◌≤◌, List, [], ◌∷◌, ◌++◌, length, take, drop, get_or, map, replicate, ap, sym, ◌∙◌, arith, false, append_assoc, length-append, length-take-le, length-drop}
use Rattle.std.proofs.lemmas.Bool.{ne_eqb}
use Rattle.std.proofs.lemmas.List.{get_or-take, get_or_append_left, get_or-append-add, take_all}
use Rattle.std.proofs.lemmas.Simd.{put_chunk_whole}
use Rattle.std.proofs.lemmas.Slice.{take-put_mid}
use Rattle.std.specs.Int.Bits.{xor_assoc, xor_zero_r}
use Rattle.std.specs.Prelude.{bit_xor, nat_eq}
use Rattle.std.specs.Simd.Lanes.{zip2}
use lib.Lanes.{pick_l, put_chunk}
use borrow.Rule.Slice.PartMut.{put_mid}
use Rattle.aes_core.specs.Groups.{last_column, row_sum, column_sums, in_each_column, HoldsGroups}
use Rattle.aes_core.specs.Lanes.{round_key, row_on}
use Rattle.aes_core.specs.RoundKeys.{word_of, round_constant, changed_word, next_word, key_schedule, round_keys}
use Rattle.aes_core.specs.Steps.{state_of}
use Rattle.aes_core.specs.Substitution.{substitute_byte}
use Rattle.aes_core.proofs.LaneLemmas.{of_sixteen}
use Rattle.aes_core.proofs.ScheduleLemmas.{next_word-take}

-- ---- sums from column to column

sum_0 : (a : ℕ) → bit_xor (bit_xor a 0) 0 ≡ a
sum_0 a = xor_zero_r (bit_xor a 0) ∙ xor_zero_r a

sum_1 : (a b : ℕ) → bit_xor (bit_xor b a) 0 ≡ bit_xor b a
sum_1 a b = xor_zero_r (bit_xor b a)

sum_2 : (a b c : ℕ) → bit_xor (bit_xor c b) (bit_xor a 0) ≡ bit_xor c (bit_xor b a)
sum_2 a b c = xor_assoc c b (bit_xor a 0) ∙ ap (λ x. bit_xor c (bit_xor b x)) (xor_zero_r a)

sum_3 : (a b c d : ℕ) → bit_xor (bit_xor d c) (bit_xor b a) ≡ bit_xor d (bit_xor c (bit_xor b a))
sum_3 a b c d = xor_assoc d c (bit_xor b a)

-- the columns one on, and two on, after columns of zeros
abbrev pub one_before : List ℕ → List ℕ
one_before s = pick_l 0 (replicate 16 0 ++ s) (0 ∷ 1 ∷ 2 ∷ 3 ∷ 16 ∷ 17 ∷ 18 ∷ 19 ∷ 20 ∷ 21 ∷ 22 ∷ 23 ∷ 24 ∷ 25 ∷
    26 ∷ 27 ∷ [])

abbrev pub two_before : List ℕ → List ℕ
two_before s = pick_l 0 (replicate 16 0 ++ s) (0 ∷ 1 ∷ 2 ∷ 3 ∷ 4 ∷ 5 ∷ 6 ∷ 7 ∷ 16 ∷ 17 ∷ 18 ∷ 19 ∷ 20 ∷ 21 ∷ 22 ∷
    23 ∷ [])

pub sums_by_columns : (s : List ℕ) → length s ≡ 16 →
    zip2 bit_xor (zip2 bit_xor s (one_before s)) (two_before (zip2 bit_xor s (one_before s))) ≡ column_sums s
unfolding column_sums row_sum
sums_by_columns s size = of_sixteen (λ s. zip2 bit_xor (zip2 bit_xor s (one_before s)) (two_before (zip2 bit_xor s
    (one_before s))) ≡ column_sums s)
    (λ x0 x1 x2 x3 x4 x5 x6 x7 x8 x9 x10 x11 x12 x13 x14 x15. λ i.
    sum_0 x0 i ∷ sum_0 x1 i ∷ sum_0 x2 i ∷ sum_0 x3 i ∷
    sum_1 x0 x4 i ∷ sum_1 x1 x5 i ∷ sum_1 x2 x6 i ∷ sum_1 x3 x7 i ∷
    sum_2 x0 x4 x8 i ∷ sum_2 x1 x5 x9 i ∷ sum_2 x2 x6 x10 i ∷ sum_2 x3 x7 x11 i ∷
    sum_3 x0 x4 x8 x12 i ∷ sum_3 x1 x5 x9 x13 i ∷ sum_3 x2 x6 x10 x14 i ∷ sum_3 x3 x7 x11 x15 i ∷ []) s size

-- ---- the changed word

-- the places of the word before a group
before_0 : (n : ℕ) → 2 ≤ n → 16 * (n - 1) + 12 ≡ 4 * (4 * n - 1) + 0
before_0 n some = omega arith

before_1 : (n : ℕ) → 2 ≤ n → 16 * (n - 1) + 13 ≡ 4 * (4 * n - 1) + 1
before_1 n some = omega arith

before_2 : (n : ℕ) → 2 ≤ n → 16 * (n - 1) + 14 ≡ 4 * (4 * n - 1) + 2
before_2 n some = omega arith

before_3 : (n : ℕ) → 2 ≤ n → 16 * (n - 1) + 15 ≡ 4 * (4 * n - 1) + 3
before_3 n some = omega arith

pub changed_even : (w : List ℕ) (n : ℕ) → 2 ≤ n → n % 2 ≡ 0 →
    zip2 bit_xor (map substitute_byte (row_on 1 (last_column (round_key w (n - 1))))) (state_of
    (λ r c. round_constant (n / 2) r)) ≡ in_each_column (changed_word w (4 * n))
unfolding row_on last_column round_key in_each_column changed_word
changed_even w n some even =
    let eighth : 4 * n % 8 ≡ 0 = omega arith in
    let turn : n / 2 ≡ 4 * n / 8 = omega arith in
    let b0 = before_0 n some in
    let b1 = before_1 n some in
    let b2 = before_2 n some in
    let b3 = before_3 n some in
    rw eighth (λ i.
    bit_xor (substitute_byte (get_or w (b1 i) 0)) (round_constant (turn i) 0) ∷
    bit_xor (substitute_byte (get_or w (b2 i) 0)) (round_constant (turn i) 1) ∷
    bit_xor (substitute_byte (get_or w (b3 i) 0)) (round_constant (turn i) 2) ∷
    bit_xor (substitute_byte (get_or w (b0 i) 0)) (round_constant (turn i) 3) ∷
    bit_xor (substitute_byte (get_or w (b1 i) 0)) (round_constant (turn i) 0) ∷
    bit_xor (substitute_byte (get_or w (b2 i) 0)) (round_constant (turn i) 1) ∷
    bit_xor (substitute_byte (get_or w (b3 i) 0)) (round_constant (turn i) 2) ∷
    bit_xor (substitute_byte (get_or w (b0 i) 0)) (round_constant (turn i) 3) ∷
    bit_xor (substitute_byte (get_or w (b1 i) 0)) (round_constant (turn i) 0) ∷
    bit_xor (substitute_byte (get_or w (b2 i) 0)) (round_constant (turn i) 1) ∷
    bit_xor (substitute_byte (get_or w (b3 i) 0)) (round_constant (turn i) 2) ∷
    bit_xor (substitute_byte (get_or w (b0 i) 0)) (round_constant (turn i) 3) ∷
    bit_xor (substitute_byte (get_or w (b1 i) 0)) (round_constant (turn i) 0) ∷
    bit_xor (substitute_byte (get_or w (b2 i) 0)) (round_constant (turn i) 1) ∷
    bit_xor (substitute_byte (get_or w (b3 i) 0)) (round_constant (turn i) 2) ∷
    bit_xor (substitute_byte (get_or w (b0 i) 0)) (round_constant (turn i) 3) ∷ [])

pub changed_odd : (w : List ℕ) (n : ℕ) → 2 ≤ n → (n % 2 ≡ 0 → ⊥) →
    map substitute_byte (last_column (round_key w (n - 1))) ≡ in_each_column (changed_word w (4 * n))
unfolding last_column round_key in_each_column changed_word
changed_odd w n some odd =
    let fourth : 4 * n % 8 ≡ 4 = omega arith in
    let b0 = before_0 n some in
    let b1 = before_1 n some in
    let b2 = before_2 n some in
    let b3 = before_3 n some in
    rw fourth (λ i.
    substitute_byte (get_or w (b0 i) 0) ∷ substitute_byte (get_or w (b1 i) 0) ∷
    substitute_byte (get_or w (b2 i) 0) ∷ substitute_byte (get_or w (b3 i) 0) ∷
    substitute_byte (get_or w (b0 i) 0) ∷ substitute_byte (get_or w (b1 i) 0) ∷
    substitute_byte (get_or w (b2 i) 0) ∷ substitute_byte (get_or w (b3 i) 0) ∷
    substitute_byte (get_or w (b0 i) 0) ∷ substitute_byte (get_or w (b1 i) 0) ∷
    substitute_byte (get_or w (b2 i) 0) ∷ substitute_byte (get_or w (b3 i) 0) ∷
    substitute_byte (get_or w (b0 i) 0) ∷ substitute_byte (get_or w (b1 i) 0) ∷
    substitute_byte (get_or w (b2 i) 0) ∷ substitute_byte (get_or w (b3 i) 0) ∷ [])

-- ---- a group is four words

-- a word of group n, by its place in it and what it is xored with
abbrev group_word : List ℕ → ℕ → ℕ → List ℕ → List ℕ
group_word w n c before = word_of (λ k. bit_xor (get_or w (16 * (n - 2) + (4 * c + k)) 0) (get_or before k 0))

abbrev group_words : List ℕ → ℕ → List ℕ → List ℕ
group_words w n changed =
    let first : List ℕ = group_word w n 0 changed in
    let second : List ℕ = group_word w n 1 first in
    let third : List ℕ = group_word w n 2 second in
    first ++ (second ++ (third ++ group_word w n 3 third))

chain_1 : (a b x : ℕ) → bit_xor (bit_xor b a) x ≡ bit_xor b (bit_xor a x)
chain_1 a b x = xor_assoc b a x

chain_2 : (a b c x : ℕ) → bit_xor (bit_xor c (bit_xor b a)) x ≡ bit_xor c (bit_xor b (bit_xor a x))
chain_2 a b c x = xor_assoc c (bit_xor b a) x ∙ ap (bit_xor c) (chain_1 a b x)

chain_3 : (a b c d x : ℕ) → bit_xor (bit_xor d (bit_xor c (bit_xor b a))) x ≡
    bit_xor d (bit_xor c (bit_xor b (bit_xor a x)))
chain_3 a b c d x = xor_assoc d (bit_xor c (bit_xor b a)) x ∙ ap (bit_xor d) (chain_2 a b c x)

group_is_words : (w : List ℕ) (n : ℕ) (changed : List ℕ) →
    zip2 bit_xor (column_sums (round_key w (n - 2))) (in_each_column changed) ≡ group_words w n changed
unfolding column_sums row_sum round_key in_each_column
group_is_words w n changed =
    let byte = λ (k : ℕ). get_or w (16 * (n - 2) + k) 0 in
    let x = λ (k : ℕ). get_or changed k 0 in
    (λ i.
    bit_xor (byte 0) (x 0) ∷ bit_xor (byte 1) (x 1) ∷ bit_xor (byte 2) (x 2) ∷ bit_xor (byte 3) (x 3) ∷
    chain_1 (byte 0) (byte 4) (x 0) i ∷ chain_1 (byte 1) (byte 5) (x 1) i ∷ chain_1 (byte 2) (byte 6) (x 2) i ∷
    chain_1 (byte 3) (byte 7) (x 3) i ∷
    chain_2 (byte 0) (byte 4) (byte 8) (x 0) i ∷ chain_2 (byte 1) (byte 5) (byte 9) (x 1) i ∷
    chain_2 (byte 2) (byte 6) (byte 10) (x 2) i ∷ chain_2 (byte 3) (byte 7) (byte 11) (x 3) i ∷
    chain_3 (byte 0) (byte 4) (byte 8) (byte 12) (x 0) i ∷ chain_3 (byte 1) (byte 5) (byte 9) (byte 13) (x 1) i ∷
    chain_3 (byte 2) (byte 6) (byte 10) (byte 14) (x 2) i ∷ chain_3 (byte 3) (byte 7) (byte 11) (byte 15) (x 3) i ∷
    [])

-- ---- four words in a row

-- a word that follows one of the same group
chained : (w before word : List ℕ) (i n c : ℕ) → 8 ≤ i → length before ≡ 4 * (i - 1) →
    ((k : ℕ) → k < 4 → 16 * (n - 2) + (4 * c + k) ≡ 4 * (i - 8) + k) →
    ((k : ℕ) → k < 4 → get_or (before ++ word) (16 * (n - 2) + (4 * c + k)) 0 ≡
    get_or w (16 * (n - 2) + (4 * c + k)) 0) →
    nat_eq (i % 8) 0 ≡ false → nat_eq (i % 8) 4 ≡ false → next_word (before ++ word) i ≡ group_word w n c word
unfolding next_word changed_word
chained w before word i n c some size place same not_eighth not_fourth =
    let there : (k : ℕ) → 4 * (i - 1) + k ≡ length before + k = λ k. omega arith in
    let old = λ (k : ℕ) (low : k < 4). ap (λ p. get_or (before ++ word) p 0) (sym (place k low)) ∙ same k low in
    let new = λ (k : ℕ). ap (λ p. get_or (before ++ word) p 0) (there k) ∙ get_or-append-add before word k 0 in
    rw (not_eighth, not_fourth) (λ j.
    bit_xor (old 0 (omega arith) j) (new 0 j) ∷ bit_xor (old 1 (omega arith) j) (new 1 j) ∷
    bit_xor (old 2 (omega arith) j) (new 2 j) ∷ bit_xor (old 3 (omega arith) j) (new 3 j) ∷ [])

-- the first word of a group
first_of_group : (w before : List ℕ) (m n : ℕ) → 2 ≤ n → m + 8 ≡ 4 * n → take (16 * n) w ≡ before →
    next_word before (m + 8) ≡ group_word w n 0 (changed_word w (4 * n))
unfolding next_word
first_of_group w before m n some index now =
    let p0 : 4 * (4 * n - 8) + 0 ≡ 16 * (n - 2) + (4 * 0 + 0) = omega arith in
    let p1 : 4 * (4 * n - 8) + 1 ≡ 16 * (n - 2) + (4 * 0 + 1) = omega arith in
    let p2 : 4 * (4 * n - 8) + 2 ≡ 16 * (n - 2) + (4 * 0 + 2) = omega arith in
    let p3 : 4 * (4 * n - 8) + 3 ≡ 16 * (n - 2) + (4 * 0 + 3) = omega arith in
    let changed = changed_word w (4 * n) in
    let here : next_word w (4 * n) ≡ group_word w n 0 changed =
    λ j. bit_xor (get_or w (p0 j) 0) (get_or changed 0 0) ∷ bit_xor (get_or w (p1 j) 0) (get_or changed 1 0) ∷
    bit_xor (get_or w (p2 j) 0) (get_or changed 2 0) ∷ bit_xor (get_or w (p3 j) 0) (get_or changed 3 0) ∷ [] in
    (λ j. next_word (sym now j) (index j)) ∙ next_word-take w (16 * n) (4 * n) (omega arith) (omega arith) ∙ here

-- four words more of a schedule
four_more : (key : List ℕ) (m : ℕ) (w0 w1 w2 w3 : List ℕ) →
    next_word (key_schedule key m) (m + 8) ≡ w0 →
    next_word (key_schedule key m ++ w0) (suc m + 8) ≡ w1 →
    next_word (key_schedule key m ++ w0 ++ w1) (suc (suc m) + 8) ≡ w2 →
    next_word (key_schedule key m ++ w0 ++ w1 ++ w2) (suc (suc (suc m)) + 8) ≡ w3 →
    key_schedule key m ++ (w0 ++ (w1 ++ (w2 ++ w3))) ≡ key_schedule key (suc (suc (suc (suc m))))
unfolding key_schedule
four_more key m w0 w1 w2 w3 e0 e1 e2 e3 =
    let s : List ℕ = key_schedule key m in
    let s1 : key_schedule key (suc m) ≡ s ++ w0 = ap (λ v. s ++ v) e0 in
    let s2 : key_schedule key (suc (suc m)) ≡ s ++ w0 ++ w1 = (λ i. s1 i ++ next_word (s1 i) (suc m + 8))
    ∙ ap (λ v. s ++ w0 ++ v) e1 in
    let s3 : key_schedule key (suc (suc (suc m))) ≡ s ++ w0 ++ w1 ++ w2 =
    (λ i. s2 i ++ next_word (s2 i) (suc (suc m) + 8)) ∙ ap (λ v. s ++ w0 ++ w1 ++ v) e2 in
    let s4 : key_schedule key (suc (suc (suc (suc m)))) ≡ s ++ w0 ++ w1 ++ w2 ++ w3 =
    (λ i. s3 i ++ next_word (s3 i) (suc (suc (suc m)) + 8)) ∙ ap (λ v. s ++ w0 ++ w1 ++ w2 ++ v) e3 in
    sym (s4 ∙ append_assoc (s ++ w0 ++ w1) w2 w3 ∙ append_assoc (s ++ w0) w1 (w2 ++ w3)
    ∙ append_assoc s w0 (w1 ++ (w2 ++ w3)))

-- the bytes before a place stay when more are appended
reads_on : (w before word : List ℕ) (m : ℕ) → m ≤ length before → ((p : ℕ) → p < m →
    get_or before p 0 ≡ get_or w p 0) →
    (p : ℕ) → p < m → get_or (before ++ word) p 0 ≡ get_or w p 0
reads_on w before word m within same p low = get_or_append_left before word 0 p (omega arith) ∙ same p low

group_more : (key w : List ℕ) (m n : ℕ) → 2 ≤ n → m + 8 ≡ 4 * n → length w ≡ 240 → n ≤ 14 →
    take (16 * n) w ≡ key_schedule key m →
    key_schedule key m ++ group_words w n (changed_word w (4 * n)) ≡ key_schedule key (suc (suc (suc (suc m))))
group_more key w m n some index whole within now =
    let s : List ℕ = key_schedule key m in
    let w0 : List ℕ = group_word w n 0 (changed_word w (4 * n)) in
    let w1 : List ℕ = group_word w n 1 w0 in
    let w2 : List ℕ = group_word w n 2 w1 in
    let w3 : List ℕ = group_word w n 3 w2 in
    let size : length s ≡ 16 * n = ap length (sym now) ∙ length-take-le (16 * n) w (omega arith) in
    let size1 : length (s ++ w0) ≡ 16 * n + 4 = length-append s w0 ∙ ap (λ k. k + 4) size in
    let size2 : length (s ++ w0 ++ w1) ≡ 16 * n + 4 + 4 = length-append (s ++ w0) w1 ∙ ap (λ k. k + 4) size1 in
    let r0 : (p : ℕ) → p < 16 * n → get_or s p 0 ≡ get_or w p 0 = λ p low. ap (λ v. get_or v p 0) (sym now)
    ∙ get_or-take (16 * n) w p 0 low in
    let r1 : (p : ℕ) → p < 16 * n → get_or (s ++ w0) p 0 ≡ get_or w p 0 = reads_on w s w0 (16 * n) (omega arith) r0 in
    let r2 : (p : ℕ) → p < 16 * n → get_or (s ++ w0 ++ w1) p 0 ≡ get_or w p 0 =
    reads_on w (s ++ w0) w1 (16 * n) (omega arith) r1 in
    let r3 : (p : ℕ) → p < 16 * n → get_or (s ++ w0 ++ w1 ++ w2) p 0 ≡ get_or w p 0 =
    reads_on w (s ++ w0 ++ w1) w2 (16 * n) (omega arith) r2 in
    four_more key m w0 w1 w2 w3 (first_of_group w s m n some index now)
    (chained w s w0 (suc m + 8) n 1 (omega arith) (omega arith) (λ k low. omega arith) (λ k low. r1 _
    (omega arith)) (ne_eqb _ 0 (λ e. omega arith)) (ne_eqb _ 4 (λ e. omega arith)))
    (chained w (s ++ w0) w1 (suc (suc m) + 8) n 2 (omega arith) (omega arith) (λ k low. omega arith)
    (λ k low. r2 _ (omega arith)) (ne_eqb _ 0 (λ e. omega arith)) (ne_eqb _ 4 (λ e. omega arith)))
    (chained w (s ++ w0 ++ w1) w2 (suc (suc (suc m)) + 8) n 3 (omega arith) (omega arith) (λ k low. omega arith)
    (λ k low. r3 _ (omega arith)) (ne_eqb _ 0 (λ e. omega arith)) (ne_eqb _ 4 (λ e. omega arith)))

-- ---- a group in the buffer

pub group_written : (key w group : List ℕ) (n count : ℕ) → 2 ≤ n → n ≤ 14 → count ≡ 16 → length w ≡ 240 →
    group ≡ zip2 bit_xor (column_sums (round_key w (n - 2))) (in_each_column (changed_word w (4 * n))) →
    HoldsGroups w key n →
    HoldsGroups (put_mid (16 * n) count w (put_chunk 0 (take count (drop (16 * n) w)) group)) key (n + 1)
group_written key w group n count some within sixteen whole is now =
    let words : group ≡ group_words w n (changed_word w (4 * n)) = is ∙ group_is_words w n (changed_word w (4 * n)) in
    let size : length group ≡ 16 = ap length words in
    let part : length (take count (drop (16 * n) w)) ≡ 16 =
    length-take-le count (drop (16 * n) w) (omega (arith, length-drop (16 * n) w)) ∙ sixteen in
    let next : suc (suc (suc (suc (4 * n - 8)))) ≡ 4 * (n + 1) - 8 = omega arith in
    ap (λ v. take (16 * (n + 1)) (put_mid (16 * n) count w v)) (put_chunk_whole (take count (drop
    (16 * n) w)) group (part ∙ sym size))
    ∙ take-put_mid (16 * n) count w group (16 * (n + 1)) (omega arith) (omega arith)
    ∙ (λ i. now i ++ words i) ∙ group_more key w (4 * n - 8) n some (omega arith) whole within now
    ∙ ap (λ k. key_schedule key k) next

pub groups_counted : (w key : List ℕ) (n m : ℕ) → n ≡ m → HoldsGroups w key n → HoldsGroups w key m
groups_counted w key n m same now = ap (λ k. take (16 * k) w) (sym same) ∙ now
    ∙ ap (λ k. key_schedule key (4 * k - 8)) same

-- all groups are there
pub groups_whole : (key w : List ℕ) (n : ℕ) → n ≡ 15 → length w ≡ 240 → HoldsGroups w key n → w ≡ round_keys key
unfolding round_keys
groups_whole key w n last whole now =
    let all : 4 * n - 8 ≡ 52 = omega arith in
    sym (take_all (16 * n) w (omega arith)) ∙ now ∙ ap (λ k. key_schedule key k) all
