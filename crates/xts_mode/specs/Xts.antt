-- XTS-AES-256 on whole blocks (IEEE 1619, 5). A key is 64 bytes: the first half encrypts, the second
-- makes the tweaks. A data unit is a list of blocks of 16 bytes.
use Rattle.std.specs.Prelude.{ℕ, zero, suc, ◌*◌, ◌/◌, ◌%◌, ◌^◌, List, ◌++◌, length}
use Rattle.std.specs.Prelude.{take, drop, replicate, bit_xor, nat_lt, if◌then◌else◌}
use Rattle.byte_words.specs.Blocks.{block_at, first_blocks}
use Rattle.byte_words.specs.Numbers.{little_endian_bytes, little_endian_value}
use Rattle.byte_words.specs.Xor.{xor_bytes}
use Rattle.aes_core.specs.Aes.{encrypted_block, decrypted_block}

-- the product by α (5.2): twice a number of 128 bits, with 0x87 xored into its lowest byte if a bit is
-- shifted out
unfoldable pub times_alpha : ℕ → ℕ
times_alpha t = bit_xor (2 * t % 2 ^ 128) (if nat_lt t (2 ^ 127) then 0 else 0x87)

-- the tweak of block 0: the unit's index, in 8 bytes and 8 zeros, encrypted with the second half
unfoldable pub first_tweak : List ℕ → ℕ → ℕ
first_tweak key index =
    little_endian_value (encrypted_block (drop 32 key) (little_endian_bytes 8 index ++ replicate 8 0))

-- the tweak of block j, as a number
unfoldable pub tweak_at : List ℕ → ℕ → ℕ → ℕ
tweak_at key index zero = first_tweak key index
tweak_at key index (suc j) = times_alpha (tweak_at key index j)

-- a block between two additions of its tweak (5.3.1, 5.4.1)
unfoldable pub tweaked : (List ℕ → List ℕ) → ℕ → List ℕ → List ℕ
tweaked cipher tweak block =
    xor_bytes (cipher (xor_bytes block (little_endian_bytes 16 tweak))) (little_endian_bytes 16 tweak)

-- each block of a unit with its own tweak (5.3.2, 5.4.2)
unfoldable pub unit_of : (List ℕ → List ℕ) → List ℕ → ℕ → List ℕ → List ℕ
unit_of cipher key index unit =
    first_blocks (λ j. tweaked cipher (tweak_at key index j) (block_at 16 unit j)) (length unit / 16)

-- XTS-AES encryption
unfoldable pub xts_encrypted : List ℕ → ℕ → List ℕ → List ℕ
xts_encrypted key index unit = unit_of (encrypted_block (take 32 key)) key index unit

-- XTS-AES decryption
unfoldable pub xts_decrypted : List ℕ → ℕ → List ℕ → List ℕ
xts_decrypted key index unit = unit_of (decrypted_block (take 32 key)) key index unit
