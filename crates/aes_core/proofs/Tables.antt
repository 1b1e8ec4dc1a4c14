-- Facts for each byte. They are proved by computation.
use Rattle.std.proofs.Common.{◌≡◌, ℕ, ◌*◌, ◌%◌, ◌^◌, ◌<◌, refl, arith}
use Rattle.std.proofs.lemmas.Bool.{eqb-true}
use Rattle.std.specs.Prelude.{true, nat_eq}
use Rattle.byte_words.specs.Tables.{all_from}
use Rattle.byte_words.proofs.TableLemmas.{all_from-at}
use Rattle.aes_core.specs.Field.{times_x, sum_with_product, field_product, product_of_squares, field_inverse}
use Rattle.aes_core.specs.RoundKeys.{power_of_x}

inverse_right : all_from (λ b. nat_eq (field_product b (field_inverse b)) 1) 1 255 ≡ true
unfolding all_from times_x sum_with_product field_product product_of_squares field_inverse
inverse_right = refl

pub product-inverse : (b : ℕ) → 0 < b → b < 256 → field_product b (field_inverse b) ≡ 1
product-inverse b some low = eqb-true _ _ (all_from-at (λ k. nat_eq (field_product k (field_inverse k)) 1) 1 255 b inverse_right (omega arith) (omega arith))

power_of_x_right : all_from (λ n. nat_eq (1 * 2 ^ n % 2 ^ 8) (power_of_x n)) 0 7 ≡ true
unfolding all_from times_x power_of_x
power_of_x_right = refl

-- a shift of one bit, below x⁸
pub power_of_x_is : (n : ℕ) → n < 7 → 1 * 2 ^ n % 2 ^ 8 ≡ power_of_x n
power_of_x_is n low = eqb-true _ _ (all_from-at (λ k. nat_eq (1 * 2 ^ k % 2 ^ 8) (power_of_x k)) 0 7 n power_of_x_right (omega arith) (omega arith))
