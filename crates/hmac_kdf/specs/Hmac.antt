-- HMAC (RFC 2104, section 2) over any hash function, on lists of bytes.
use Rattle.std.specs.Prelude.{ℕ, List, ◌++◌, length, map, nat_lt, bit_xor, if◌then◌else◌}
use Rattle.byte_words.specs.Xor.{zero_filled}
use Rattle.sha2.specs.Sha256.{sha256}
use Rattle.sha2.specs.Sha512.{sha512}

-- a hash function H: its digest of a message, its block of B bytes, and its digests of L bytes
pub record Hash : Type 0 where
  pub digest : List ℕ → List ℕ
  pub block : ℕ
  pub size : ℕ

-- the hash function of these three
abbrev pub hash_of : (List ℕ → List ℕ) → ℕ → ℕ → Hash
hash_of digest block size = record { digest = digest; block = block; size = size }

-- SHA-256 (FIPS 180-4): blocks of 64 bytes, digests of 32
abbrev pub hash_sha256 : Hash
hash_sha256 = hash_of sha256 64 32

-- SHA-512 (FIPS 180-4): blocks of 128 bytes, digests of 64
abbrev pub hash_sha512 : Hash
hash_sha512 = hash_of sha512 128 64

-- the key as one block, with zeros at its end (step 1); a key of more than B bytes is hashed first
abbrev pub block_key : Hash → List ℕ → List ℕ
block_key h key = zero_filled h.block (if nat_lt h.block (length key) then h.digest key else key)

-- each byte xored with one byte (steps 2 and 5)
abbrev pub xor_each : ℕ → List ℕ → List ℕ
xor_each byte bytes = map (λ b. bit_xor b byte) bytes

-- H(K xor opad, H(K xor ipad, message)); ipad is the byte 0x36 and opad the byte 0x5c
unfoldable pub hmac_with : Hash → List ℕ → List ℕ → List ℕ
hmac_with h key message =
    h.digest (xor_each 0x5c (block_key h key) ++ h.digest (xor_each 0x36 (block_key h key) ++ message))

-- HMAC-SHA-256
abbrev pub hmac_sha256 : List ℕ → List ℕ → List ℕ
hmac_sha256 key message = hmac_with hash_sha256 key message

-- HMAC-SHA-512
abbrev pub hmac_sha512 : List ℕ → List ℕ → List ℕ
hmac_sha512 key message = hmac_with hash_sha512 key message
