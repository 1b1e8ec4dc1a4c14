-- Counter mode over a cipher of blocks of 16 bytes (NIST SP 800-38A, section 6.5).
use Rattle.std.specs.Prelude.{ℕ, ◌+◌, ◌%◌, ◌^◌, List, length}
use Rattle.std.specs.Int.{div_ceil}
use Rattle.byte_words.specs.Blocks.{first_blocks}
use Rattle.byte_words.specs.Numbers.{big_endian_bytes, big_endian_value}
use Rattle.byte_words.specs.Xor.{xor_bytes}

-- the counter of block j: the iv as a number, its highest byte first, plus j, modulo 2^128
unfoldable pub counter_block : List ℕ → ℕ → List ℕ
counter_block iv j = big_endian_bytes 16 ((big_endian_value iv + j) % 2 ^ 128)

-- as many encrypted counters as the text has blocks, the last of which may be shorter
unfoldable pub keystream : (List ℕ → List ℕ) → List ℕ → ℕ → List ℕ
keystream encrypt iv len = first_blocks (λ j. encrypt (counter_block iv j)) (div_ceil len 16)

-- the text xored with its keystream, as far as the text goes; decryption is the same
unfoldable pub counter_mode : (List ℕ → List ℕ) → List ℕ → List ℕ → List ℕ
counter_mode encrypt iv text = xor_bytes text (keystream encrypt iv (length text))
