-- The steps of a round on a state of four rows and four columns (FIPS 197, 5.1 and 5.3). A state is
-- its 16 bytes, column by column (3.4).
use Rattle.std.specs.Prelude.{ℕ, ◌+◌, ◌-◌, ◌*◌, ◌/◌, ◌%◌, List, map, bit_xor, slice_index}
use Rattle.std.specs.List.{range_with_len}
use Rattle.aes_core.specs.Field.{field_product}
use Rattle.aes_core.specs.Substitution.{substitute_byte, inverse_substitute_byte}

-- the byte in row r and column c, both counted round
abbrev pub cell : List ℕ → ℕ → ℕ → ℕ
cell s r c = slice_index s (r % 4 + 4 * (c % 4))

-- the state that has f r c in row r and column c
abbrev pub state_of : (ℕ → ℕ → ℕ) → List ℕ
state_of f = map (λ i. f (i % 4) (i / 4)) (range_with_len 0 16)

-- SUBBYTES (5.1.1) and INVSUBBYTES (5.3.2)
unfoldable pub substitute_bytes : List ℕ → List ℕ
substitute_bytes s = state_of (λ r c. substitute_byte (cell s r c))

unfoldable pub inverse_substitute_bytes : List ℕ → List ℕ
inverse_substitute_bytes s = state_of (λ r c. inverse_substitute_byte (cell s r c))

-- SHIFTROWS (5.1.2): row r rotates to the left by r; INVSHIFTROWS (5.3.1): to the right
unfoldable pub shift_rows : List ℕ → List ℕ
shift_rows s = state_of (λ r c. cell s r (c + r))

unfoldable pub inverse_shift_rows : List ℕ → List ℕ
inverse_shift_rows s = state_of (λ r c. cell s r (c + 4 - r))

-- a column times the fixed polynomial, from row r on; k0 to k3 are the coefficients for its bytes
abbrev pub mixed_cell : ℕ → ℕ → ℕ → ℕ → List ℕ → ℕ → ℕ → ℕ
mixed_cell k0 k1 k2 k3 s r c =
    bit_xor (bit_xor (bit_xor (field_product k0 (cell s r c)) (field_product k1 (cell s (r + 1) c)))
    (field_product k2 (cell s (r + 2) c))) (field_product k3 (cell s (r + 3) c))

-- MIXCOLUMNS (5.1.3) and INVMIXCOLUMNS (5.3.3)
unfoldable pub mix_columns : List ℕ → List ℕ
mix_columns s = state_of (mixed_cell 0x02 0x03 0x01 0x01 s)

unfoldable pub inverse_mix_columns : List ℕ → List ℕ
inverse_mix_columns s = state_of (mixed_cell 0x0e 0x0b 0x0d 0x09 s)

-- ADDROUNDKEY (5.1.4): the words 4 n to 4 n + 3 of the key schedule, one a column
unfoldable pub add_round_key : List ℕ → ℕ → List ℕ → List ℕ
add_round_key w n s = state_of (λ r c. bit_xor (cell s r c) (slice_index w (16 * n + (r + 4 * c))))
