-- What holds of AES-256-CBC-CTS for every key, iv and text.
use Rattle.std.specs.Prelude.{◌≡◌, ℕ, ◌≤◌, List, length}
use Rattle.byte_words.specs.Bytes.{AreBytes}
use Rattle.aes_core.specs.Laws.{IsBlock}
use Rattle.cts_mode.specs.Cts.{cts_encrypted, cts_decrypted}

-- decryption returns each text of at least 16 bytes that was encrypted
abbrev pub DecryptionUndoes : Type 0
DecryptionUndoes =
    (key iv text : List ℕ) → AreBytes key → IsBlock iv → AreBytes text → 16 ≤ length text
    → cts_decrypted key iv (cts_encrypted key iv text) ≡ text

-- a text of bytes is encrypted to bytes
abbrev pub EncryptsToBytes : Type 0
EncryptsToBytes =
    (key iv text : List ℕ) → AreBytes key → IsBlock iv → AreBytes text → 16 ≤ length text
    → AreBytes (cts_encrypted key iv text)

-- neither changes the length
abbrev pub LengthStays : (List ℕ → List ℕ → List ℕ → List ℕ) → Type 0
LengthStays f =
    (key iv text : List ℕ) → length iv ≡ 16 → 16 ≤ length text → length (f key iv text) ≡ length text
