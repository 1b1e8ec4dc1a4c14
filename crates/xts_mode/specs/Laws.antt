-- What holds of XTS-AES-256 for every key, index and unit of whole blocks.
use Rattle.std.specs.Prelude.{◌≡◌, ℕ, ◌%◌, ◌<◌, List, length, slice_index}
use Rattle.aes_core.specs.Laws.{AreBytes}
use Rattle.xts_mode.specs.Xts.{xts_encrypted, xts_decrypted}

-- a unit: bytes, in whole blocks
pub record IsUnit (unit : List ℕ) : Type 0 where
  pub whole_blocks : length unit % 16 ≡ 0
  pub bytes : (i : ℕ) → slice_index unit i < 256

-- decryption gives back each unit that was encrypted
abbrev pub DecryptionUndoes : Type 0
DecryptionUndoes =
    (key : List ℕ) (index : ℕ) (unit : List ℕ) → AreBytes key → IsUnit unit
    → xts_decrypted key index (xts_encrypted key index unit) ≡ unit

-- encryption gives back each unit that was decrypted
abbrev pub EncryptionUndoes : Type 0
EncryptionUndoes =
    (key : List ℕ) (index : ℕ) (unit : List ℕ) → AreBytes key → IsUnit unit
    → xts_encrypted key index (xts_decrypted key index unit) ≡ unit

-- both preserve the length, and return bytes
abbrev pub KeepsLength : Type 0
KeepsLength = (key : List ℕ) (index : ℕ) (unit : List ℕ) → length unit % 16 ≡ 0 →
    (length (xts_encrypted key index unit) ≡ length unit)
    × (length (xts_decrypted key index unit) ≡ length unit)

abbrev pub MakesUnits : Type 0
MakesUnits =
    (key : List ℕ) (index : ℕ) (unit : List ℕ) → AreBytes key → IsUnit unit
    → IsUnit (xts_encrypted key index unit) × IsUnit (xts_decrypted key index unit)
