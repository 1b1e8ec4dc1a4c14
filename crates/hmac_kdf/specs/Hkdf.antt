-- HKDF (RFC 5869) over any hash function, on lists of bytes.
use Rattle.std.specs.Prelude.{ℕ, zero, suc, List, [], ◌∷◌, ◌++◌, take, replicate}
use Rattle.std.specs.Int.{div_ceil}
use Rattle.hmac_kdf.specs.Hmac.{Hash, hmac_with, hash_sha256, hash_sha512}

-- the salt; if none is given, it is as many zeros as a digest has bytes (2.2)
abbrev pub salt_or_zeros : Hash → List ℕ → List ℕ
salt_or_zeros h [] = replicate h.size 0
salt_or_zeros h (s ∷ salt) = s ∷ salt

-- HKDF-Extract: the pseudorandom key (2.2)
unfoldable pub extracted : Hash → List ℕ → List ℕ → List ℕ
extracted h salt ikm = hmac_with h (salt_or_zeros h salt) ikm

-- T(i): T(0) is empty, and T(i) is the HMAC of T(i-1), info and the byte i (2.3)
unfoldable pub okm_block : Hash → List ℕ → List ℕ → ℕ → List ℕ
okm_block h prk info zero = []
okm_block h prk info (suc i) = hmac_with h prk (okm_block h prk info i ++ info ++ suc i ∷ [])

-- T(1), T(2), up to T(n), one after the other (2.3)
unfoldable pub okm_blocks : Hash → List ℕ → List ℕ → ℕ → List ℕ
okm_blocks h prk info zero = []
okm_blocks h prk info (suc n) = okm_blocks h prk info n ++ okm_block h prk info (suc n)

-- HKDF-Expand: the first len bytes of T(1) to T(N); N is len over the digest's length, rounded up (2.3)
unfoldable pub expanded : Hash → List ℕ → List ℕ → ℕ → List ℕ
expanded h prk info len = take len (okm_blocks h prk info (div_ceil len h.size))

-- HKDF: extract, then expand
unfoldable pub hkdf_with : Hash → List ℕ → List ℕ → List ℕ → ℕ → List ℕ
hkdf_with h salt ikm info len = expanded h (extracted h salt ikm) info len

-- HKDF-SHA256
abbrev pub hkdf_sha256 : List ℕ → List ℕ → List ℕ → ℕ → List ℕ
hkdf_sha256 salt ikm info len = hkdf_with hash_sha256 salt ikm info len

-- HKDF-SHA512
abbrev pub hkdf_sha512 : List ℕ → List ℕ → List ℕ → ℕ → List ℕ
hkdf_sha512 salt ikm info len = hkdf_with hash_sha512 salt ikm info len
