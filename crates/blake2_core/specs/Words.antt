-- The words of BLAKE2b: numbers below 2 ^ 64, written in bytes with the low byte first
-- (RFC 7693, 2.3 and 2.4).
use Rattle.std.specs.Prelude.{ℕ, ◌+◌, ◌%◌, ◌^◌, List, map}
use Rattle.std.specs.List.{range_with_len}
pub use Rattle.byte_words.specs.Words.{word_at, bytes_of_words}

-- the sum of two words, modulo 2 ^ 64
abbrev pub word_sum : ℕ → ℕ → ℕ
word_sum x y = (x + y) % 2 ^ 64

-- the 16 words of a block of 128 bytes
unfoldable pub block_words : List ℕ → List ℕ
block_words block = map (word_at block) (range_with_len 0 16)
