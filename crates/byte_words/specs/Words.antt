-- Words of 64 bits, written in 8 bytes each with the low byte first.
use Rattle.std.specs.Prelude.{ℕ, List}
use Rattle.std.specs.List.{flat_map}
use Rattle.byte_words.specs.Blocks.{block_at}
use Rattle.byte_words.specs.Numbers.{little_endian_bytes, little_endian_value}

-- word i of a list of bytes
abbrev pub word_at : List ℕ → ℕ → ℕ
word_at bytes i = little_endian_value (block_at 8 bytes i)

-- words as bytes
abbrev pub bytes_of_words : List ℕ → List ℕ
bytes_of_words words = flat_map (little_endian_bytes 8) words
