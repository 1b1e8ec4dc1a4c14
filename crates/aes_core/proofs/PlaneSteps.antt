-- The steps of a round on planes: rows, sums, products by x and round keys, each the same on all eight
-- blocks.
use Rattle.std.proofs.Common.{◌≡◌, ℕ, zero, suc, ◌+◌, ◌*◌, ◌%◌, ◌^◌, ◌<◌, true, cond, List, [], ◌∷◌, map, get_or, length, replicate, refl, ap, sym, ◌∙◌, arith, Fits, w8}
use Rattle.std.proofs.lemmas.List.{length-map}
use Rattle.std.proofs.lemmas.Bool.{eqb-true}
use Rattle.std.proofs.lemmas.Simd.{length-zip2}
use Rattle.std.proofs.lemmas.Nat.Bits.{bit_at-lt}
use Rattle.std.proofs.lemmas.Nat.{xor_of_8}
use Rattle.std.specs.Prelude.{bit_and, bit_xor, nat_eq, slice_index}
use Rattle.std.specs.Int.{bit_at}
use Rattle.std.specs.List.{range_with_len}
use Rattle.std.specs.Simd.Lanes.{zip2, Each1}
use lib.Lanes.{sel_l, top}
use Rattle.byte_words.specs.Tables.{all_from}
use Rattle.byte_words.proofs.TableLemmas.{all_from-at}
use Rattle.byte_words.specs.Bytes.{AreBytes}
use Rattle.aes_core.specs.Field.{times_x}
use Rattle.aes_core.specs.Lanes.{round_key}
use Rattle.aes_core.specs.Laws.{IsBlock}
use Rattle.aes_core.specs.Steps.{cell}
use Rattle.aes_core.specs.UnshiftedRows.{unshifted_row, unshifted_mix}
use Rattle.aes_core.specs.Planes.{packed, vector_of, plane, AllBlocks}
use Rattle.aes_core.specs.MiddleRounds.{state_map}
use Rattle.aes_core.proofs.ByteTables.{times_x-lt}
use Rattle.aes_core.proofs.LaneLemmas.{of_sixteen}
use Rattle.aes_core.proofs.PlaneLemmas.{xor_functions, plane_same}
use Rattle.aes_core.proofs.StateLemmas.{bytes_from, state_of-IsBlock}

-- ---- rows are found in each block as they are found in a plane

pub next_row_of_plane : (n k : ℕ) (s : ℕ → List ℕ) (v r : List ℕ) → n < 4 → v ≡ plane (λ x. bit_at x k) s → r ≡ unshifted_row 1 n v → r ≡ plane (λ x. bit_at x k) (λ b. unshifted_row 1 n (s b))
unfolding plane vector_of unshifted_row
next_row_of_plane zero k s v r low is made = made ∙ ap (λ w. unshifted_row 1 0 w) is
next_row_of_plane (suc zero) k s v r low is made = made ∙ ap (λ w. unshifted_row 1 1 w) is
next_row_of_plane (suc (suc zero)) k s v r low is made = made ∙ ap (λ w. unshifted_row 1 2 w) is
next_row_of_plane (suc (suc (suc zero))) k s v r low is made = made ∙ ap (λ w. unshifted_row 1 3 w) is
next_row_of_plane (suc (suc (suc (suc n)))) k s v r low is made = absurd (omega arith)

pub second_row_of_plane : (n k : ℕ) (s : ℕ → List ℕ) (v r : List ℕ) → n < 4 → v ≡ plane (λ x. bit_at x k) s → r ≡ unshifted_row 2 n v → r ≡ plane (λ x. bit_at x k) (λ b. unshifted_row 2 n (s b))
unfolding plane vector_of unshifted_row
second_row_of_plane zero k s v r low is made = made ∙ ap (λ w. unshifted_row 2 0 w) is
second_row_of_plane (suc zero) k s v r low is made = made ∙ ap (λ w. unshifted_row 2 1 w) is
second_row_of_plane (suc (suc zero)) k s v r low is made = made ∙ ap (λ w. unshifted_row 2 2 w) is
second_row_of_plane (suc (suc (suc zero))) k s v r low is made = made ∙ ap (λ w. unshifted_row 2 3 w) is
second_row_of_plane (suc (suc (suc (suc n)))) k s v r low is made = absurd (omega arith)

-- ---- blocks that are made of blocks

pub unshifted_row-IsBlock : (m n : ℕ) (s : List ℕ) → IsBlock s → IsBlock (unshifted_row m n s)
unfolding unshifted_row
unshifted_row-IsBlock m n s block = state_of-IsBlock (λ r c. cell s (r + m) (c + m * (n + 1))) (λ r c. block.bytes _)

pub state_map-IsBlock : (f : ℕ → ℕ) → ((x : ℕ) → x < 256 → f x < 256) → (s : List ℕ) → IsBlock s → IsBlock (state_map f s)
unfolding state_map
state_map-IsBlock f small s block = state_of-IsBlock (λ r c. f (cell s r c)) (λ r c. small (cell s r c) (block.bytes _))

xor_bytes-lt : (xs ys : List ℕ) → ((i : ℕ) → get_or xs i 0 < 256) → ((i : ℕ) → get_or ys i 0 < 256) → (i : ℕ) → get_or (zip2 bit_xor xs ys) i 0 < 256
xor_bytes-lt [] ys xb yb i = omega arith
xor_bytes-lt (x ∷ xs) [] xb yb i = omega arith
xor_bytes-lt (x ∷ xs) (y ∷ ys) xb yb zero = xor_of_8 x y (xb 0) (yb 0)
xor_bytes-lt (x ∷ xs) (y ∷ ys) xb yb (suc i) = xor_bytes-lt xs ys (λ k. xb (suc k)) (λ k. yb (suc k)) i

pub xor-IsBlock : (s t : List ℕ) → IsBlock s → IsBlock t → IsBlock (zip2 bit_xor s t)
xor-IsBlock s t sb tb = record {
  size = length-zip2 bit_xor s t (sb.size ∙ sym tb.size) ∙ sb.size;
  bytes = xor_bytes-lt s t sb.bytes tb.bytes;
}

times_x_bytes-lt : (xs : List ℕ) → ((i : ℕ) → get_or xs i 0 < 256) → (i : ℕ) → get_or (map times_x xs) i 0 < 256
times_x_bytes-lt [] xb i = omega arith
times_x_bytes-lt (x ∷ xs) xb zero = times_x-lt x (xb 0)
times_x_bytes-lt (x ∷ xs) xb (suc i) = times_x_bytes-lt xs (λ k. xb (suc k)) i

pub times_x-IsBlock : (s : List ℕ) → IsBlock s → IsBlock (map times_x s)
times_x-IsBlock s block = record {
  size = length-map s times_x ∙ block.size;
  bytes = times_x_bytes-lt s block.bytes;
}

pub unshifted_mix-IsBlock : (n : ℕ) (s : List ℕ) → IsBlock s → IsBlock (unshifted_mix n s)
unfolding unshifted_mix
unshifted_mix-IsBlock n s block =
    let next : List ℕ = unshifted_row 1 n s in
    let next_block : IsBlock next = unshifted_row-IsBlock 1 n s block in
    let sum : List ℕ = zip2 bit_xor s next in
    let sum_block : IsBlock sum = xor-IsBlock s next block next_block in
    xor-IsBlock (zip2 bit_xor (map times_x sum) next) (unshifted_row 2 n sum) (xor-IsBlock (map times_x sum) next (times_x-IsBlock sum sum_block) next_block) (unshifted_row-IsBlock 2 n sum sum_block)

-- ---- the product by x: a plane is the one below, or its xor with the highest

product_at : (xs : List ℕ) (p : ℕ) → times_x (get_or xs p 0) ≡ get_or (map times_x xs) p 0
unfolding times_x
product_at [] p = refl
product_at (x ∷ xs) zero = refl
product_at (x ∷ xs) (suc p) = product_at xs p

doubled : (k : ℕ) (s : ℕ → List ℕ) → plane (λ x. bit_at (times_x x) k) s ≡ plane (λ x. bit_at x k) (λ b. map times_x (s b))
unfolding plane
doubled k s = (λ i. vector_of (λ b p. bit_at (product_at (s b) p i) k))

-- plane k of the product is plane j
pub moved : (j k : ℕ) (s : ℕ → List ℕ) (v : List ℕ) → AllBlocks s → all_from (λ x. nat_eq (bit_at x j) (bit_at (times_x x) k)) 0 256 ≡ true →
    v ≡ plane (λ x. bit_at x j) s → v ≡ plane (λ x. bit_at x k) (λ b. map times_x (s b))
moved j k s v blocks all is = is ∙ plane_same (λ x. bit_at x j) (λ x. bit_at (times_x x) k) s blocks all ∙ doubled k s

-- plane k of the product is the sum of plane j and plane 7
pub reduced : (j k : ℕ) (s : ℕ → List ℕ) (r v w : List ℕ) → AllBlocks s → all_from (λ x. nat_eq (bit_xor (bit_at x j) (bit_at x 7)) (bit_at (times_x x) k)) 0 256 ≡ true →
    r ≡ zip2 bit_xor v w → v ≡ plane (λ x. bit_at x j) s → w ≡ plane (λ x. bit_at x 7) s → r ≡ plane (λ x. bit_at x k) (λ b. map times_x (s b))
reduced j k s r v w blocks all made left right =
    xor_functions (λ x. bit_at x j) (λ x. bit_at x 7) s r v w (λ x. bit_at-lt x j) (λ x. bit_at-lt x 7) made left right
    ∙ plane_same (λ x. bit_xor (bit_at x j) (bit_at x 7)) (λ x. bit_at (times_x x) k) s blocks all ∙ doubled k s

-- ---- round keys

pub round_key-IsBlock : (keys : List ℕ) (n : ℕ) → AreBytes keys → IsBlock (round_key keys n)
unfolding round_key
round_key-IsBlock keys n small = record {
  size = refl;
  bytes = bytes_from (λ i. get_or keys (16 * n + i) 0) 16 (λ k. small (16 * n + k));
}

key_bit_right : all_from (λ k. all_from (λ x. nat_eq (cond (top 7 (cond (nat_eq (bit_and x (1 * 2 ^ k % 256)) (1 * 2 ^ k % 256)) 255 0)) 255 0) (packed 8 (λ _. bit_at x k))) 0 256) 0 8 ≡ true
unfolding all_from packed
key_bit_right = refl

-- all ones if a byte has the bit
key_bit : (k x : ℕ) → k < 8 → x < 256 → cond (top 7 (cond (nat_eq (bit_and x (1 * 2 ^ k % 256)) (1 * 2 ^ k % 256)) 255 0)) 255 0 ≡ packed 8 (λ _. bit_at x k)
key_bit k x bit low = eqb-true _ _ (all_from-at (λ x. nat_eq (cond (top 7 (cond (nat_eq (bit_and x (1 * 2 ^ k % 256)) (1 * 2 ^ k % 256)) 255 0)) 255 0) (packed 8 (λ _. bit_at x k))) 0 256 x
    (all_from-at (λ k. all_from (λ x. nat_eq (cond (top 7 (cond (nat_eq (bit_and x (1 * 2 ^ k % 256)) (1 * 2 ^ k % 256)) 255 0)) 255 0) (packed 8 (λ _. bit_at x k))) 0 256) 0 8 k key_bit_right (omega arith) (omega arith)) (omega arith) (omega arith))

key_lanes : (k n : ℕ) (v : List ℕ) → k < 8 → length v ≡ n → Each1 (Fits w8) v →
    sel_l (map (top 7) (zip2 (λ a b. cond (nat_eq a b) 255 0) (zip2 bit_and v (replicate n (1 * 2 ^ k % 256))) (replicate n (1 * 2 ^ k % 256)))) (replicate n 255) (replicate n 0)
    ≡ map (λ x. packed 8 (λ _. bit_at x k)) v
key_lanes k zero [] bit size fits = refl
key_lanes k zero (x ∷ v) bit size fits = absurd (omega arith)
key_lanes k (suc n) [] bit size fits = absurd (omega arith)
key_lanes k (suc n) (x ∷ v) bit size fits =
    let rest : length v ≡ n = omega arith in
    (λ i. key_bit k x bit fits.0.fits i ∷ key_lanes k n v bit rest fits.1 i)

pub key_plane_is : (k : ℕ) (v : List ℕ) → k < 8 → length v ≡ 16 → Each1 (Fits w8) v →
    sel_l (map (top 7) (zip2 (λ a b. cond (nat_eq a b) 255 0) (zip2 bit_and v (replicate 16 (1 * 2 ^ k % 256))) (replicate 16 (1 * 2 ^ k % 256)))) (replicate 16 255) (replicate 16 0)
    ≡ plane (λ x. bit_at x k) (λ _. v)
unfolding plane vector_of
key_plane_is k v bit size fits = key_lanes k 16 v bit size fits
    ∙ of_sixteen (λ v. map (λ x. packed 8 (λ _. bit_at x k)) v ≡ map (λ p. packed 8 (λ b. bit_at (slice_index v p) k)) (range_with_len 0 16)) (λ x0 x1 x2 x3 x4 x5 x6 x7 x8 x9 x10 x11 x12 x13 x14 x15. refl) v size
