-- Facts of the field and the S-boxes for each byte. The facts over all bytes, or all pairs of bytes, are
-- proved by computation.
use Rattle.std.proofs.Common.{◌≡◌, ℕ, ◌<◌, refl, arith}
use Rattle.std.proofs.lemmas.Bool.{eqb-true, ltb-true}
use Rattle.std.specs.Prelude.{true, cond, ◌+◌, ◌%◌, ◌^◌, bit_xor, nat_eq, nat_lt, nat_le}
use lib.Lanes.{top}
use Rattle.byte_words.specs.Tables.{all_from}
use Rattle.byte_words.proofs.TableLemmas.{all_from-at}
use Rattle.aes_core.specs.Field.{times_x, sum_with_product, field_product, product_of_squares, field_inverse}
use Rattle.aes_core.specs.Substitution.{bit_of, number_of_bits, affine_map, inverse_affine_map, substitute_byte, inverse_substitute_byte}

pub byte_equal : (f g : ℕ → ℕ) → all_from (λ b. nat_eq (f b) (g b)) 0 256 ≡ true → (b : ℕ) → b < 256 → f b ≡ g b
byte_equal f g all b low = eqb-true (f b) (g b) (all_from-at (λ k. nat_eq (f k) (g k)) 0 256 b all (omega arith) (omega arith))

byte_below : (f : ℕ → ℕ) → all_from (λ b. nat_lt (f b) 256) 0 256 ≡ true → (b : ℕ) → b < 256 → f b < 256
byte_below f all b low = ltb-true (f b) 256 (all_from-at (λ k. nat_lt (f k) 256) 0 256 b all (omega arith) (omega arith))

pub inverse_substitute-substitute : (b : ℕ) → b < 256 → inverse_substitute_byte (substitute_byte b) ≡ b
unfolding all_from times_x sum_with_product field_product product_of_squares field_inverse bit_of number_of_bits affine_map substitute_byte inverse_affine_map inverse_substitute_byte
inverse_substitute-substitute = byte_equal _ _ refl

pub substitute-inverse_substitute : (b : ℕ) → b < 256 → substitute_byte (inverse_substitute_byte b) ≡ b
unfolding all_from times_x sum_with_product field_product product_of_squares field_inverse bit_of number_of_bits affine_map substitute_byte inverse_affine_map inverse_substitute_byte
substitute-inverse_substitute = byte_equal _ _ refl

pub substitute_byte-lt : (b : ℕ) → b < 256 → substitute_byte b < 256
unfolding all_from times_x sum_with_product field_product product_of_squares field_inverse bit_of number_of_bits affine_map substitute_byte
substitute_byte-lt = byte_below _ refl

pub inverse_substitute_byte-lt : (b : ℕ) → b < 256 → inverse_substitute_byte b < 256
unfolding all_from times_x sum_with_product field_product product_of_squares field_inverse bit_of number_of_bits inverse_affine_map inverse_substitute_byte
inverse_substitute_byte-lt = byte_below _ refl

pub times_x-lt : (b : ℕ) → b < 256 → times_x b < 256
unfolding all_from times_x
times_x-lt = byte_below _ refl

times_x_linear : all_from (λ a. all_from (λ b. nat_eq (times_x (bit_xor a b)) (bit_xor (times_x a) (times_x b))) 0 256) 0 256 ≡ true
unfolding all_from times_x
times_x_linear = refl

-- the product by x of a sum is the sum of the products
pub times_x-xor : (a b : ℕ) → a < 256 → b < 256 → times_x (bit_xor a b) ≡ bit_xor (times_x a) (times_x b)
times_x-xor a b small low = eqb-true _ _ (all_from-at (λ l. nat_eq (times_x (bit_xor a l)) (bit_xor (times_x a) (times_x l))) 0 256 b
    (all_from-at (λ k. all_from (λ l. nat_eq (times_x (bit_xor k l)) (bit_xor (times_x k) (times_x l))) 0 256) 0 256 a times_x_linear (omega arith) (omega arith)) (omega arith) (omega arith))

pub spread_by_14 : (b : ℕ) → b < 256 → bit_xor (field_product 2 b) (bit_xor (field_product 2 (times_x (times_x b))) (field_product 1 (times_x (times_x b)))) ≡ field_product 14 b
unfolding all_from times_x sum_with_product field_product
spread_by_14 = byte_equal _ _ refl

pub spread_by_11 : (b : ℕ) → b < 256 → bit_xor (field_product 3 b) (bit_xor (field_product 3 (times_x (times_x b))) (field_product 1 (times_x (times_x b)))) ≡ field_product 11 b
unfolding all_from times_x sum_with_product field_product
spread_by_11 = byte_equal _ _ refl

pub spread_by_13 : (b : ℕ) → b < 256 → bit_xor (field_product 1 b) (bit_xor (field_product 1 (times_x (times_x b))) (field_product 2 (times_x (times_x b)))) ≡ field_product 13 b
unfolding all_from times_x sum_with_product field_product
spread_by_13 = byte_equal _ _ refl

pub spread_by_9 : (b : ℕ) → b < 256 → bit_xor (field_product 1 b) (bit_xor (field_product 1 (times_x (times_x b))) (field_product 3 (times_x (times_x b)))) ≡ field_product 9 b
unfolding all_from times_x sum_with_product field_product
spread_by_9 = byte_equal _ _ refl

pub times_x_lane : (b : ℕ) → b < 256 → bit_xor ((b + b) % 2 ^ 8) (cond (top 7 (cond (nat_le 128 b) 255 0)) 27 0) ≡ times_x b
unfolding all_from times_x
times_x_lane = byte_equal _ _ refl
