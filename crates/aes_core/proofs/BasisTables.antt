-- Facts of the basis for each byte, or for each pair of bytes. They are proved by computation.
use Rattle.std.proofs.Common.{◌≡◌, ℕ, ◌<◌, List, true, refl, ap, ◌∙◌, arith}
use Rattle.std.proofs.lemmas.Bool.{eqb-true}
use Rattle.std.specs.Prelude.{bit_xor, nat_eq}
use Rattle.std.specs.Int.Bits.{xor_assoc}
use Rattle.byte_words.specs.Tables.{all_from}
use Rattle.byte_words.proofs.TableLemmas.{all_from-at}
use Rattle.aes_core.specs.Field.{times_x, sum_with_product, field_product, product_of_squares, field_inverse}
use Rattle.aes_core.specs.Shuffles.{found_in, low_half, high_half, half_bytes, half_sum, first_part, second_part}
use Rattle.aes_core.specs.Substitution.{bit_of, number_of_bits, affine_map, inverse_affine_map, substitute_byte, inverse_substitute_byte}
use Rattle.aes_core.specs.Basis.{in_basis, in_inverse_basis}
use Rattle.aes_core.specs.declared.shuffle_tables.TheConstants.{AFFINE_CONSTANT, INVERSES, SCALED_INVERSES, BYTE_OF_FIRST, BYTE_OF_SECOND, INVERSE_BYTE_OF_FIRST, INVERSE_BYTE_OF_SECOND, ONCE_OF_FIRST, ONCE_OF_SECOND, TWICE_OF_FIRST, TWICE_OF_SECOND, BY_NINE_OF_FIRST, BY_NINE_OF_SECOND, BY_THIRTEEN_OF_FIRST, BY_THIRTEEN_OF_SECOND, BY_ELEVEN_OF_FIRST, BY_ELEVEN_OF_SECOND, BY_FOURTEEN_OF_FIRST, BY_FOURTEEN_OF_SECOND}

-- a fact of each pair of bytes
pub of_pairs : (f g : ℕ → ℕ → ℕ) → all_from (λ a. all_from (λ b. nat_eq (f a b) (g a b)) 0 256) 0 256 ≡ true → (a b : ℕ) → a < 256 → b < 256 → f a b ≡ g a b
of_pairs f g all a b small low = eqb-true _ _ (all_from-at (λ l. nat_eq (f a l) (g a l)) 0 256 b
    (all_from-at (λ k. all_from (λ l. nat_eq (f k l) (g k l)) 0 256) 0 256 a all (omega arith) (omega arith)) (omega arith) (omega arith))

-- the change of basis is linear
pub in_basis-xor : (a b : ℕ) → a < 256 → b < 256 → in_basis (bit_xor a b) ≡ bit_xor (in_basis a) (in_basis b)
unfolding all_from in_basis half_bytes found_in low_half high_half
in_basis-xor = of_pairs _ _ refl

-- a byte in the basis of the inverse, without the constant of the change
unfoldable pub linear_part : ℕ → ℕ
linear_part b = bit_xor (in_inverse_basis b) 0xe8

pub in_inverse_basis-xor : (a b : ℕ) → a < 256 → b < 256 → in_inverse_basis (bit_xor a b) ≡ bit_xor (linear_part a) (in_inverse_basis b)
unfolding all_from linear_part in_inverse_basis half_bytes found_in low_half high_half
in_inverse_basis-xor = of_pairs _ _ refl

pub linear_part-xor : (a b : ℕ) → a < 256 → b < 256 → linear_part (bit_xor a b) ≡ bit_xor (linear_part a) (linear_part b)
unfolding linear_part
linear_part-xor a b small low = ap (λ z. bit_xor z 0xe8) (in_inverse_basis-xor a b small low) ∙ xor_assoc (linear_part a) (in_inverse_basis b) 0xe8

-- ---- the results of the tables

-- the S-box without its constant, and its double, in the basis
unfoldable pub once_byte : ℕ → ℕ
once_byte b = in_basis (bit_xor (substitute_byte b) AFFINE_CONSTANT)

unfoldable pub twice_byte : ℕ → ℕ
twice_byte b = in_basis (times_x (bit_xor (substitute_byte b) AFFINE_CONSTANT))

-- a product of the inverse S-box
unfoldable pub inverse_product : ℕ → ℕ → ℕ
inverse_product k b = linear_part (field_product k (inverse_substitute_byte b))

-- the xor of what two tables have at the two parts of the inverse of a byte, which is given in some basis
unfoldable pub by_both : (ℕ → ℕ) → List ℕ → List ℕ → ℕ → ℕ
by_both basis of_first of_second b =
    bit_xor (found_in of_first (first_part INVERSES SCALED_INVERSES (basis b))) (found_in of_second (second_part INVERSES SCALED_INVERSES (basis b)))

abbrev pub Finds : (ℕ → ℕ) → List ℕ → List ℕ → (ℕ → ℕ) → Type 0
Finds basis of_first of_second made = all_from (λ b. nat_eq (by_both basis of_first of_second b) (made b)) 0 256 ≡ true

pub finds_once : Finds in_basis ONCE_OF_FIRST ONCE_OF_SECOND once_byte
unfolding all_from by_both once_byte in_basis half_bytes found_in low_half high_half half_sum first_part second_part times_x sum_with_product field_product product_of_squares field_inverse bit_of number_of_bits affine_map substitute_byte
finds_once = refl

pub finds_twice : Finds in_basis TWICE_OF_FIRST TWICE_OF_SECOND twice_byte
unfolding all_from by_both twice_byte in_basis half_bytes found_in low_half high_half half_sum first_part second_part times_x sum_with_product field_product product_of_squares field_inverse bit_of number_of_bits affine_map substitute_byte
finds_twice = refl

pub finds_byte : Finds in_basis BYTE_OF_FIRST BYTE_OF_SECOND (λ b. bit_xor (substitute_byte b) AFFINE_CONSTANT)
unfolding all_from by_both in_basis half_bytes found_in low_half high_half half_sum first_part second_part times_x sum_with_product field_product product_of_squares field_inverse bit_of number_of_bits affine_map substitute_byte
finds_byte = refl

pub finds_inverse_byte : Finds in_inverse_basis INVERSE_BYTE_OF_FIRST INVERSE_BYTE_OF_SECOND inverse_substitute_byte
unfolding all_from by_both in_inverse_basis half_bytes found_in low_half high_half half_sum first_part second_part times_x sum_with_product field_product product_of_squares field_inverse bit_of number_of_bits inverse_affine_map inverse_substitute_byte
finds_inverse_byte = refl

pub finds_by_9 : Finds in_inverse_basis BY_NINE_OF_FIRST BY_NINE_OF_SECOND (inverse_product 9)
unfolding all_from by_both inverse_product linear_part in_inverse_basis half_bytes found_in low_half high_half half_sum first_part second_part times_x sum_with_product field_product product_of_squares field_inverse bit_of number_of_bits inverse_affine_map inverse_substitute_byte
finds_by_9 = refl

pub finds_by_13 : Finds in_inverse_basis BY_THIRTEEN_OF_FIRST BY_THIRTEEN_OF_SECOND (inverse_product 13)
unfolding all_from by_both inverse_product linear_part in_inverse_basis half_bytes found_in low_half high_half half_sum first_part second_part times_x sum_with_product field_product product_of_squares field_inverse bit_of number_of_bits inverse_affine_map inverse_substitute_byte
finds_by_13 = refl

pub finds_by_11 : Finds in_inverse_basis BY_ELEVEN_OF_FIRST BY_ELEVEN_OF_SECOND (inverse_product 11)
unfolding all_from by_both inverse_product linear_part in_inverse_basis half_bytes found_in low_half high_half half_sum first_part second_part times_x sum_with_product field_product product_of_squares field_inverse bit_of number_of_bits inverse_affine_map inverse_substitute_byte
finds_by_11 = refl

pub finds_by_14 : Finds in_inverse_basis BY_FOURTEEN_OF_FIRST BY_FOURTEEN_OF_SECOND (inverse_product 14)
unfolding all_from by_both inverse_product linear_part in_inverse_basis half_bytes found_in low_half high_half half_sum first_part second_part times_x sum_with_product field_product product_of_squares field_inverse bit_of number_of_bits inverse_affine_map inverse_substitute_byte
finds_by_14 = refl
