-- AES-256-CBC-CTS: ciphertext stealing, form CS3, over AES-256.
use Rattle.std.specs.Prelude.{ℕ, List}
use Rattle.aes_core.specs.Aes.{encrypted_block, decrypted_block}
use Rattle.cts_mode.specs.CbcStealing.{cs3_encrypted, cs3_decrypted}

-- the ciphertext under a key of 32 bytes and an iv of 16
unfoldable pub cts_encrypted : List ℕ → List ℕ → List ℕ → List ℕ
cts_encrypted key iv text = cs3_encrypted (encrypted_block key) iv text

-- the plain text under them
unfoldable pub cts_decrypted : List ℕ → List ℕ → List ℕ → List ℕ
cts_decrypted key iv text = cs3_decrypted (decrypted_block key) iv text
