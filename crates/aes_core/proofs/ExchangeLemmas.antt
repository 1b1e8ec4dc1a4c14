-- Exchanges of bits by sums, as the code has them, are exchanges by masks.
use Rattle.std.proofs.Common.{◌≡◌, ℕ, zero, suc, ◌*◌, ◌/◌, ◌%◌, ◌^◌, ◌<◌, true, List, [], ◌∷◌, length, replicate, refl, arith, Fits, w8}
use Rattle.std.specs.Prelude.{bit_and, bit_or, bit_xor, nat_eq}
use Rattle.std.specs.Simd.Lanes.{Each1, zip2}
use Rattle.byte_words.specs.Tables.{all_from}
use Rattle.aes_core.proofs.BasisTables.{of_pairs}

-- the results of an exchange of two bytes, by xoring the bits that differ
unfoldable pub low_by_sum : ℕ → ℕ → ℕ → ℕ → ℕ
low_by_sum n low a b = bit_xor a (bit_and (bit_xor (a / 2 ^ n) b) low * 2 ^ n % 2 ^ 8)

unfoldable pub high_by_sum : ℕ → ℕ → ℕ → ℕ → ℕ
high_by_sum n low a b = bit_xor b (bit_and (bit_xor (a / 2 ^ n) b) low)

-- and the same by masks
unfoldable pub low_by_masks : ℕ → ℕ → ℕ → ℕ → ℕ
low_by_masks n low a b = bit_or (bit_and a low) (bit_and b low * 2 ^ n % 2 ^ 8)

unfoldable pub high_by_masks : ℕ → ℕ → ℕ → ℕ → ℕ
high_by_masks n high a b = bit_or (bit_and a high / 2 ^ n) (bit_and b high)

fours_lower_table : all_from (λ a. all_from (λ b. nat_eq (low_by_sum 4 15 a b) (low_by_masks 4 15 a b)) 0 256) 0 256 ≡ true
unfolding all_from low_by_sum low_by_masks
fours_lower_table = refl

fours_upper_table : all_from (λ a. all_from (λ b. nat_eq (high_by_sum 4 15 a b) (high_by_masks 4 240 a b)) 0 256) 0 256 ≡ true
unfolding all_from high_by_sum high_by_masks
fours_upper_table = refl

pub fours_lower : (a b : ℕ) → a < 256 → b < 256 → low_by_sum 4 15 a b ≡ low_by_masks 4 15 a b
fours_lower = of_pairs (low_by_sum 4 15) (low_by_masks 4 15) fours_lower_table

pub fours_upper : (a b : ℕ) → a < 256 → b < 256 → high_by_sum 4 15 a b ≡ high_by_masks 4 240 a b
fours_upper = of_pairs (high_by_sum 4 15) (high_by_masks 4 240) fours_upper_table

pairs_lower_table : all_from (λ a. all_from (λ b. nat_eq (low_by_sum 2 51 a b) (low_by_masks 2 51 a b)) 0 256) 0 256 ≡ true
unfolding all_from low_by_sum low_by_masks
pairs_lower_table = refl

pairs_upper_table : all_from (λ a. all_from (λ b. nat_eq (high_by_sum 2 51 a b) (high_by_masks 2 204 a b)) 0 256) 0 256 ≡ true
unfolding all_from high_by_sum high_by_masks
pairs_upper_table = refl

pub pairs_lower : (a b : ℕ) → a < 256 → b < 256 → low_by_sum 2 51 a b ≡ low_by_masks 2 51 a b
pairs_lower = of_pairs (low_by_sum 2 51) (low_by_masks 2 51) pairs_lower_table

pub pairs_upper : (a b : ℕ) → a < 256 → b < 256 → high_by_sum 2 51 a b ≡ high_by_masks 2 204 a b
pairs_upper = of_pairs (high_by_sum 2 51) (high_by_masks 2 204) pairs_upper_table

singles_lower_table : all_from (λ a. all_from (λ b. nat_eq (low_by_sum 1 85 a b) (low_by_masks 1 85 a b)) 0 256) 0 256 ≡ true
unfolding all_from low_by_sum low_by_masks
singles_lower_table = refl

singles_upper_table : all_from (λ a. all_from (λ b. nat_eq (high_by_sum 1 85 a b) (high_by_masks 1 170 a b)) 0 256) 0 256 ≡ true
unfolding all_from high_by_sum high_by_masks
singles_upper_table = refl

pub singles_lower : (a b : ℕ) → a < 256 → b < 256 → low_by_sum 1 85 a b ≡ low_by_masks 1 85 a b
singles_lower = of_pairs (low_by_sum 1 85) (low_by_masks 1 85) singles_lower_table

pub singles_upper : (a b : ℕ) → a < 256 → b < 256 → high_by_sum 1 85 a b ≡ high_by_masks 1 170 a b
singles_upper = of_pairs (high_by_sum 1 85) (high_by_masks 1 170) singles_upper_table

-- ---- lane by lane

pub lower_lanes : (n low : ℕ) → ((a b : ℕ) → a < 256 → b < 256 → low_by_sum n low a b ≡ low_by_masks n low a b) →
    (k : ℕ) (xs ys : List ℕ) → length xs ≡ k → length ys ≡ k → Each1 (Fits w8) xs → Each1 (Fits w8) ys →
    zip2 bit_xor xs (zip2 (λ a m. a * 2 ^ m % 2 ^ 8) (zip2 bit_and (zip2 bit_xor (zip2 (λ a m. a / 2 ^ m) xs (replicate k n)) ys) (replicate k low)) (replicate k n))
    ≡ zip2 bit_or (zip2 bit_and xs (replicate k low)) (zip2 (λ a m. a * 2 ^ m % 2 ^ 8) (zip2 bit_and ys (replicate k low)) (replicate k n))
unfolding low_by_sum low_by_masks
lower_lanes n low same k [] ys xn yn fx fy = refl
lower_lanes n low same zero (x ∷ xs) ys xn yn fx fy = absurd (omega arith)
lower_lanes n low same (suc k) (x ∷ xs) [] xn yn fx fy = absurd (omega arith)
lower_lanes n low same (suc k) (x ∷ xs) (y ∷ ys) xn yn fx fy =
    let xr : length xs ≡ k = omega arith in
    let yr : length ys ≡ k = omega arith in
    (λ i. same x y fx.0.fits fy.0.fits i ∷ lower_lanes n low same k xs ys xr yr fx.1 fy.1 i)

pub upper_lanes : (n low high : ℕ) → ((a b : ℕ) → a < 256 → b < 256 → high_by_sum n low a b ≡ high_by_masks n high a b) →
    (k : ℕ) (xs ys : List ℕ) → length xs ≡ k → length ys ≡ k → Each1 (Fits w8) xs → Each1 (Fits w8) ys →
    zip2 bit_xor ys (zip2 bit_and (zip2 bit_xor (zip2 (λ a m. a / 2 ^ m) xs (replicate k n)) ys) (replicate k low))
    ≡ zip2 bit_or (zip2 (λ a m. a / 2 ^ m) (zip2 bit_and xs (replicate k high)) (replicate k n)) (zip2 bit_and ys (replicate k high))
unfolding high_by_sum high_by_masks
upper_lanes n low high same zero [] [] xn yn fx fy = refl
upper_lanes n low high same zero [] (y ∷ ys) xn yn fx fy = absurd (omega arith)
upper_lanes n low high same zero (x ∷ xs) ys xn yn fx fy = absurd (omega arith)
upper_lanes n low high same (suc k) [] ys xn yn fx fy = absurd (omega arith)
upper_lanes n low high same (suc k) (x ∷ xs) [] xn yn fx fy = absurd (omega arith)
upper_lanes n low high same (suc k) (x ∷ xs) (y ∷ ys) xn yn fx fy =
    let xr : length xs ≡ k = omega arith in
    let yr : length ys ≡ k = omega arith in
    (λ i. same x y fx.0.fits fy.0.fits i ∷ upper_lanes n low high same k xs ys xr yr fx.1 fy.1 i)
