-- Bytes as polynomials over the field of two elements, modulo x⁸ + x⁴ + x³ + x + 1 (FIPS 197, 4).
use Rattle.std.specs.Prelude.{ℕ, zero, suc, ◌-◌, ◌*◌, ◌/◌, ◌%◌, bit_xor, nat_eq, nat_lt, if◌then◌else◌}

-- the product by the polynomial x: the degree rises, and x⁸ is x⁴ + x³ + x + 1 (4.2, XTIMES)
unfoldable pub times_x : ℕ → ℕ
times_x b = if nat_lt b 128 then 2 * b else bit_xor (2 * b - 256) 0x1b

-- the sum, and the product of b by the polynomial a, of which n coefficients are left
unfoldable pub sum_with_product : ℕ → ℕ → ℕ → ℕ → ℕ
sum_with_product zero a b sum = sum
sum_with_product (suc n) a b sum =
    sum_with_product n (a / 2) (times_x b) (if nat_eq (a % 2) 1 then bit_xor sum b else sum)

-- the product of two bytes (4.2)
unfoldable pub field_product : ℕ → ℕ → ℕ
field_product a b = sum_with_product 8 a b 0

-- the product of n squares: of b², of its square, and so on
unfoldable pub product_of_squares : ℕ → ℕ → ℕ
product_of_squares zero b = 1
product_of_squares (suc n) b = field_product (field_product b b) (product_of_squares n (field_product b b))

-- b²⁵⁴, which is the inverse of b, and 0 for 0 (4.4)
unfoldable pub field_inverse : ℕ → ℕ
field_inverse b = product_of_squares 7 b
