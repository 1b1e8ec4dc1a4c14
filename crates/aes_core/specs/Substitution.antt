-- The S-box and its inverse (FIPS 197, 5.1.1 and 5.3.2).
use Rattle.std.specs.Prelude.{ℕ, zero, suc, ◌+◌, ◌*◌, ◌/◌, ◌%◌, ◌^◌}
use Rattle.aes_core.specs.Field.{field_inverse}

-- bit i of a byte, counted round
unfoldable pub bit_of : ℕ → ℕ → ℕ
bit_of b i = b / 2 ^ (i % 8) % 2

-- the number with the bits bit 0, bit 1, .. below n
unfoldable pub number_of_bits : (ℕ → ℕ) → ℕ → ℕ
number_of_bits bit zero = 0
number_of_bits bit (suc n) = number_of_bits bit n + bit n * 2 ^ n

-- the affine map: each bit is the sum of five bits of the byte and one of {63} (5.1.1)
unfoldable pub affine_map : ℕ → ℕ
affine_map b =
    number_of_bits (λ i. (bit_of b i + bit_of b (i + 4) + bit_of b (i + 5) + bit_of b (i + 6)
    + bit_of b (i + 7) + bit_of 0x63 i) % 2) 8

-- the affine map back: each bit is the sum of three bits of the byte and one of {05} (5.3.2)
unfoldable pub inverse_affine_map : ℕ → ℕ
inverse_affine_map b =
    number_of_bits (λ i. (bit_of b (i + 2) + bit_of b (i + 5) + bit_of b (i + 7) + bit_of 0x05 i) % 2) 8

-- SBOX (5.1.1): the inverse in the field, then the affine map
unfoldable pub substitute_byte : ℕ → ℕ
substitute_byte b = affine_map (field_inverse b)

-- INVSBOX (5.3.2): the affine map back, then the inverse in the field
unfoldable pub inverse_substitute_byte : ℕ → ℕ
inverse_substitute_byte b = field_inverse (inverse_affine_map b)
