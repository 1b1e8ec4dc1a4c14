-- How many bytes are derived.
use Rattle.std.proofs.Common.{◌≡◌, ℕ, List, [], length, take, refl, ap, ◌∙◌}
use Rattle.std.specs.Prelude.{min}
use Rattle.std.proofs.lemmas.List.{length-take}
use Rattle.sha2.proofs.Facts512.{length-sha512}
use Rattle.byte_words.specs.Bytes.{AreBytesOfLength}
use Rattle.byte_words.proofs.AreBytesLemmas.{AreBytes-take}
use Rattle.hmac_kdf.specs.Hmac.{hash_sha512, hmac_with}
use Rattle.hmac_kdf.specs.Hkdf.{expanded, extracted, hkdf_sha512, hkdf_with, okm_block, okm_blocks}
use Rattle.hmac_kdf.proofs.BytesLemmas.{sha512_derives}
use Rattle.session_records.specs.Derivations.{DerivedNoncesAreBytes, caller_byte, hkdf_info, drawn_bytes, derived_nonce}
use Rattle.session_records.specs.declared.derivations.Purpose.{Purpose}
use Rattle.session_records.specs.declared.derivations.Purpose.TheVariants.{NonceOrKey}

-- one block of SHA-512
block_long : (prk info : List ℕ) → length (okm_blocks hash_sha512 prk info 1) ≡ 64
unfolding okm_blocks okm_block hmac_with
block_long prk info = length-sha512 _

drawn_long : (seed info : List ℕ) → length (hkdf_sha512 [] seed info 64) ≡ 64
unfolding hkdf_with expanded
drawn_long seed info =
    length-take 64 (okm_blocks hash_sha512 (extracted hash_sha512 [] seed) info 1) ∙ ap (min 64) (block_long (extracted hash_sha512 [] seed) info)

-- the first n of the derived bytes are n bytes
pub drawn_are_bytes : (n : ℕ) → min n 64 ≡ n → (seed : List ℕ) (caller number : ℕ) (purpose : Purpose)
    → AreBytesOfLength n (take n (drawn_bytes seed caller number purpose))
unfolding drawn_bytes
drawn_are_bytes n few seed caller number purpose =
    let info = hkdf_info caller number purpose in (
      length-take n (hkdf_sha512 [] seed info 64) ∙ ap (min n) (drawn_long seed info) ∙ few,
      AreBytes-take n (hkdf_sha512 [] seed info 64) (sha512_derives.derived [] seed info 64),
    )

pub nonce_is_bytes : DerivedNoncesAreBytes
unfolding derived_nonce
nonce_is_bytes seed caller number = drawn_are_bytes 16 refl seed (caller_byte caller) number NonceOrKey
