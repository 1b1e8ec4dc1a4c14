-- CBC with ciphertext stealing, form CS3, over a cipher of blocks of 16 bytes (NIST SP 800-38A,
-- addendum). The text has at least 16 bytes.
use Rattle.std.specs.Prelude.{ℕ, suc, ◌-◌, ◌*◌, ◌==◌, List, ◌++◌, length, take, drop, if◌then◌else◌}
use Rattle.std.specs.Int.{div_ceil}
use Rattle.byte_words.specs.Xor.{xor_bytes, zero_filled}
use Rattle.byte_words.specs.Blocks.{block_at, first_blocks}
use Rattle.cts_mode.specs.Cbc.{cbc_block, plain_block}

-- of m blocks: C_1 to C_(m-2), then C_m, then the first bytes of C_(m-1) up to the size
abbrev pub stolen_ciphertext : (ℕ → List ℕ) → ℕ → ℕ → List ℕ
stolen_ciphertext block m size =
    first_blocks (λ j. block (suc j)) (m - 2) ++ block m ++ take (size - 16 * (m - 1)) (block (m - 1))

-- the m blocks of CBC of the text, filled with zeros to m whole blocks
abbrev pub stealing : (List ℕ → List ℕ) → List ℕ → List ℕ → ℕ → List ℕ
stealing encrypt iv text m =
    stolen_ciphertext (cbc_block encrypt iv (zero_filled (16 * m) text)) m (length text)

-- one block is one block of CBC; of more, the last two are swapped, also if the last one is whole
unfoldable pub cs3_encrypted : (List ℕ → List ℕ) → List ℕ → List ℕ → List ℕ
cs3_encrypted encrypt iv text =
    if length text == 16 then cbc_block encrypt iv text 1
    else stealing encrypt iv text (div_ceil (length text) 16)

-- The last piece is what is left of C_(m-1). Its other bytes are at the end of the decrypted C_m, since the
-- last block of the text was filled with zeros.
abbrev pub unstealing : (List ℕ → List ℕ) → List ℕ → List ℕ → ℕ → List ℕ
unstealing decrypt iv text m =
    let piece = drop (16 * (m - 1)) text in
    let last_plain = decrypt (block_at 16 text (m - 2)) in
    let whole = piece ++ drop (length piece) last_plain in
    first_blocks (plain_block decrypt iv (take (16 * (m - 2)) text ++ whole)) (m - 1)
    ++ xor_bytes last_plain piece

-- the plain text of every ciphertext, also of one that no encryption made
unfoldable pub cs3_decrypted : (List ℕ → List ℕ) → List ℕ → List ℕ → List ℕ
cs3_decrypted decrypt iv text =
    if length text == 16 then plain_block decrypt iv text 0
    else unstealing decrypt iv text (div_ceil (length text) 16)
