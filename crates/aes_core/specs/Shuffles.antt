-- The results of the code's shuffles, byte by byte. These definitions describe the code and not the
-- standard.
use Rattle.std.specs.Prelude.{ℕ, ◌/◌, Bool, ◌||◌, List, bit_and, bit_xor, nat_le}
use Rattle.std.specs.Prelude.{nat_lt, slice_index, if◌then◌else◌, IsTrue}

-- whether a byte has the highest bit, or is a place of a table of 16 bytes
abbrev pub is_place : ℕ → Bool
is_place p = nat_le 128 p || nat_lt p 16

abbrev pub IsPlace : ℕ → Type 0
IsPlace p = IsTrue (is_place p)

-- 0 if it has the highest bit, and otherwise the table's byte at the place
unfoldable pub found_in : List ℕ → ℕ → ℕ
found_in table p = if nat_le 128 p then 0 else slice_index table p

-- the halves of a byte
unfoldable pub low_half : ℕ → ℕ
low_half b = bit_and b 15

unfoldable pub high_half : ℕ → ℕ
high_half b = b / 16

-- a byte by one table for each of its halves
unfoldable pub half_bytes : List ℕ → List ℕ → ℕ → ℕ
half_bytes low high b = bit_xor (found_in low (low_half b)) (found_in high (high_half b))

-- the sum of the halves
unfoldable pub half_sum : ℕ → ℕ
half_sum b = bit_xor (high_half b) (low_half b)

-- the two parts of an inverse, from the halves, by a table of inverses and one of scaled inverses
unfoldable pub first_part : List ℕ → List ℕ → ℕ → ℕ
first_part inverses scaled b =
    bit_xor (found_in inverses (bit_xor (found_in inverses (high_half b)) (found_in scaled (low_half b))))
    (half_sum b)

unfoldable pub second_part : List ℕ → List ℕ → ℕ → ℕ
second_part inverses scaled b =
    bit_xor (found_in inverses (bit_xor (found_in inverses (half_sum b)) (found_in scaled (low_half b))))
    (high_half b)
