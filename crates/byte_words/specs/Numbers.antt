-- Numbers written as bytes, and the numbers that bytes write.
use Rattle.std.specs.Prelude.{ℕ, ◌+◌, ◌*◌, List, [], ◌∷◌, reverse}
use Rattle.std.specs.Int.{bytes_low_first, bytes_high_first}

-- the lowest bytes of a number, the lowest first
abbrev pub little_endian_bytes : ℕ → ℕ → List ℕ
little_endian_bytes count n = bytes_low_first 0 count n

-- the lowest bytes of a number, the lowest last
abbrev pub big_endian_bytes : ℕ → ℕ → List ℕ
big_endian_bytes count n = bytes_high_first count n

-- the number that bytes write, the lowest first
unfoldable pub little_endian_value : List ℕ → ℕ
little_endian_value [] = 0
little_endian_value (b ∷ bs) = b + 256 * little_endian_value bs

-- the number that bytes write, the lowest last
unfoldable pub big_endian_value : List ℕ → ℕ
big_endian_value bytes = little_endian_value (reverse bytes)
