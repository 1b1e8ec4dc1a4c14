-- Everything that a hash function derives is bytes, whatever it is derived from.
use Rattle.std.specs.Prelude.{ℕ, List}
use Rattle.byte_words.specs.Bytes.{AreBytes}
use Rattle.hmac_kdf.specs.Hmac.{Hash, hmac_with}
use Rattle.hmac_kdf.specs.Hkdf.{extracted, expanded, hkdf_with}

pub record DerivesBytes (h : Hash) : Type 0 where
  pub digest : (message : List ℕ) → AreBytes (h.digest message)
  pub mac : (key message : List ℕ) → AreBytes (hmac_with h key message)
  pub prk : (salt ikm : List ℕ) → AreBytes (extracted h salt ikm)
  pub expansion : (prk info : List ℕ) (len : ℕ) → AreBytes (expanded h prk info len)
  pub derived : (salt ikm info : List ℕ) (len : ℕ) → AreBytes (hkdf_with h salt ikm info len)
