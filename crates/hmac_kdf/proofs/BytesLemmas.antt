-- Digests are bytes, and so is what is derived from them.
use Rattle.std.proofs.Common.{ℕ, zero, suc, List}
use Rattle.std.specs.Prelude.{slice_index}
use Rattle.std.specs.Int.{w32, w64, to_be_bytes, div_ceil}
use Rattle.byte_words.specs.Bytes.{AreBytes}
use Rattle.byte_words.proofs.AreBytesLemmas.{AreBytes-nil, AreBytes-append, AreBytes-take, AreBytes-big_endian_bytes}
use Rattle.sha2.specs.Sha256.{sha256}
use Rattle.sha2.specs.Sha256.{digest_bytes as bytes_of_32}
use Rattle.sha2.specs.Sha512.{sha512}
use Rattle.sha2.specs.Sha512.{digest_bytes as bytes_of_64}
use Rattle.hmac_kdf.specs.Hmac.{Hash, hmac_with, hash_sha256, hash_sha512}
use Rattle.hmac_kdf.specs.Hkdf.{extracted, okm_block, okm_blocks, expanded, hkdf_with}
use Rattle.hmac_kdf.specs.DerivedBytes.{DerivesBytes}

-- ---- digests

words_32 : (h : List ℕ) (n : ℕ) → AreBytes (bytes_of_32 h n)
unfolding bytes_of_32
words_32 h zero = AreBytes-nil
words_32 h (suc n) =
    AreBytes-append (bytes_of_32 h n) (to_be_bytes w32 (slice_index h n)) (words_32 h n) (AreBytes-big_endian_bytes 4 (slice_index h n))

words_64 : (h : List ℕ) (n : ℕ) → AreBytes (bytes_of_64 h n)
unfolding bytes_of_64
words_64 h zero = AreBytes-nil
words_64 h (suc n) =
    AreBytes-append (bytes_of_64 h n) (to_be_bytes w64 (slice_index h n)) (words_64 h n) (AreBytes-big_endian_bytes 8 (slice_index h n))

sha256_bytes : (m : List ℕ) → AreBytes (sha256 m)
unfolding sha256
sha256_bytes m = words_32 _ 8

sha512_bytes : (m : List ℕ) → AreBytes (sha512 m)
unfolding sha512
sha512_bytes m = words_64 _ 8

-- ---- what is derived by a hash function whose digests are bytes

module _ (h : Hash) (digests : (m : List ℕ) → AreBytes (h.digest m)) where
  mac_bytes : (key message : List ℕ) → AreBytes (hmac_with h key message)
  unfolding hmac_with
  mac_bytes key message = digests _

  prk_bytes : (salt ikm : List ℕ) → AreBytes (extracted h salt ikm)
  unfolding extracted
  prk_bytes salt ikm = mac_bytes _ ikm

  block_bytes : (prk info : List ℕ) (i : ℕ) → AreBytes (okm_block h prk info i)
  unfolding okm_block
  block_bytes prk info zero = AreBytes-nil
  block_bytes prk info (suc i) = mac_bytes prk _

  blocks_bytes : (prk info : List ℕ) (n : ℕ) → AreBytes (okm_blocks h prk info n)
  unfolding okm_blocks
  blocks_bytes prk info zero = AreBytes-nil
  blocks_bytes prk info (suc n) =
      AreBytes-append (okm_blocks h prk info n) (okm_block h prk info (suc n)) (blocks_bytes prk info n) (block_bytes prk info (suc n))

  expanded_bytes : (prk info : List ℕ) (len : ℕ) → AreBytes (expanded h prk info len)
  unfolding expanded
  expanded_bytes prk info len = AreBytes-take len _ (blocks_bytes prk info (div_ceil len h.size))

  hkdf_bytes : (salt ikm info : List ℕ) (len : ℕ) → AreBytes (hkdf_with h salt ikm info len)
  unfolding hkdf_with
  hkdf_bytes salt ikm info len = expanded_bytes (extracted h salt ikm) info len

  pub all_bytes : DerivesBytes h
  all_bytes = record { digest = digests; mac = mac_bytes; prk = prk_bytes; expansion = expanded_bytes; derived = hkdf_bytes }

pub sha256_derives : DerivesBytes hash_sha256
sha256_derives = all_bytes hash_sha256 sha256_bytes

pub sha512_derives : DerivesBytes hash_sha512
sha512_derives = all_bytes hash_sha512 sha512_bytes
