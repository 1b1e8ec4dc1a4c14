-- What holds of AES-256 for every key and block.
use Rattle.std.specs.Prelude.{◌≡◌, ℕ, ◌<◌, List, length, slice_index}
use Rattle.aes_core.specs.Aes.{encrypted_block, decrypted_block}
pub use Rattle.byte_words.specs.Bytes.{AreBytes}
use Rattle.aes_core.specs.Field.{field_product, field_inverse}

-- a block: 16 bytes
pub record IsBlock (xs : List ℕ) : Type 0 where
  pub size : length xs ≡ 16
  pub bytes : (i : ℕ) → slice_index xs i < 256

-- decryption gives back each block that was encrypted
abbrev pub DecryptionUndoes : Type 0
DecryptionUndoes =
    (key block : List ℕ) → AreBytes key → IsBlock block
    → decrypted_block key (encrypted_block key block) ≡ block

-- encryption gives back each block that was decrypted
abbrev pub EncryptionUndoes : Type 0
EncryptionUndoes =
    (key block : List ℕ) → AreBytes key → IsBlock block
    → encrypted_block key (decrypted_block key block) ≡ block

-- both return 16 bytes for all arguments
abbrev pub MakesSixteen : Type 0
MakesSixteen =
    (key block : List ℕ) → (length (encrypted_block key block) ≡ 16)
    × (length (decrypted_block key block) ≡ 16)

-- both make blocks of blocks
abbrev pub EncryptsToBlocks : Type 0
EncryptsToBlocks = (key block : List ℕ) → AreBytes key → IsBlock block → IsBlock (encrypted_block key block)

abbrev pub DecryptsToBlocks : Type 0
DecryptsToBlocks = (key block : List ℕ) → AreBytes key → IsBlock block → IsBlock (decrypted_block key block)

-- a byte but 0, times its inverse, is 1
abbrev pub InverseIsOne : Type 0
InverseIsOne = (b : ℕ) → 0 < b → b < 256 → field_product b (field_inverse b) ≡ 1
