-- Cipher block chaining over a cipher of blocks of 16 bytes (NIST SP 800-38A, section 6.2).
use Rattle.std.specs.Prelude.{ℕ, zero, suc, List}
use Rattle.byte_words.specs.Xor.{xor_bytes}
use Rattle.byte_words.specs.Blocks.{block_at}

-- C_0 is the iv, and C_j the encrypted xor of P_j with C_(j-1)
unfoldable pub cbc_block : (List ℕ → List ℕ) → List ℕ → List ℕ → ℕ → List ℕ
cbc_block encrypt iv text zero = iv
cbc_block encrypt iv text (suc j) = encrypt (xor_bytes (block_at 16 text j) (cbc_block encrypt iv text j))

-- the block before block j of a ciphertext; before the first one is the iv
abbrev pub block_before : List ℕ → List ℕ → ℕ → List ℕ
block_before iv text zero = iv
block_before iv text (suc j) = block_at 16 text j

-- block j of the plain text: the decrypted block xor the block before it
unfoldable pub plain_block : (List ℕ → List ℕ) → List ℕ → List ℕ → ℕ → List ℕ
plain_block decrypt iv text j = xor_bytes (decrypt (block_at 16 text j)) (block_before iv text j)
