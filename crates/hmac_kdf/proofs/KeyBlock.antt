-- The loop that xors a key into a block of the pad's byte.
use Rattle.std.proofs.Common.{◌≡◌, ℕ, zero, suc, ◌+◌, ◌-◌, ◌<◌, ◌≤◌, List, ◌++◌, length, replicate, drop, get_or, set, bit_xor, refl, ap, sym, ◌∙◌, arith, zero-add}
use Rattle.std.proofs.lemmas.List.{map-append, drop-replicate, length-replicate, length-map, get_or-map}
use Rattle.std.proofs.lemmas.List.Edits.{paste_none, paste_more, paste_all}
use Rattle.std.specs.Int.Bits.{xor_zero_l}
use lib.Seq.{paste}
use Rattle.byte_words.specs.Xor.{zero_filled}
use Rattle.hmac_kdf.specs.Hmac.{xor_each}

-- the block after the first i bytes of the key
abbrev pub key_block : ℕ → ℕ → List ℕ → ℕ → List ℕ
key_block n byte key i = paste (replicate n byte) 0 (xor_each byte key) i

-- a zero xored with the byte is the byte
pub xor_each-replicate : (byte n : ℕ) → xor_each byte (replicate n 0) ≡ replicate n byte
xor_each-replicate byte zero = refl
xor_each-replicate byte (suc n) = rw (xor_zero_l byte, xor_each-replicate byte n) refl

-- before the first byte it is the pad's byte alone
pub key_block-none : (n byte : ℕ) (key : List ℕ) → replicate n byte ≡ key_block n byte key 0
key_block-none n byte key = paste_none (replicate n byte) 0 (xor_each byte key)

-- after the last byte of the key it is the key, zero-filled and xored
pub key_block-whole : (n byte : ℕ) (key : List ℕ) → length key ≤ n → key_block n byte key (length key) ≡ xor_each byte (zero_filled n key)
unfolding zero_filled
key_block-whole n byte key h =
    paste_all (replicate n byte) 0 (xor_each byte key) (length key) (sym (length-map key _))
    ∙ ap (λ rest. xor_each byte key ++ rest)
    (ap (λ k. drop k (replicate n byte)) (zero-add (length key)) ∙ drop-replicate (length key) n byte
    ∙ sym (xor_each-replicate byte (n - length key)))
    ∙ sym (map-append (λ b. bit_xor b byte) key (replicate (n - length key) 0))

-- the store of the next byte
pub key_block-more : (n byte : ℕ) (key : List ℕ) (i : ℕ) → i < length key → length key ≤ n
    → set (key_block n byte key i) i (bit_xor (get_or key i 0) byte) ≡ key_block n byte key (i + 1)
key_block-more n byte key i h fits =
    let at : 0 + i ≡ i = zero-add i in
    let long : length (replicate n byte) ≡ n = length-replicate n byte in
    let short : length (xor_each byte key) ≡ length key = length-map key _ in
    let more : set (key_block n byte key i) (0 + i) (get_or (xor_each byte key) i 0) ≡ key_block n byte key (i + 1) =
    paste_more (replicate n byte) 0 (xor_each byte key) i 0 (omega arith) (omega arith) in
    let one : get_or (xor_each byte key) i 0 ≡ bit_xor (get_or key i 0) byte = get_or-map (λ b. bit_xor b byte) key i 0 0 h in
    ap (λ k. set (key_block n byte key i) k (bit_xor (get_or key i 0) byte)) (sym at)
    ∙ ap (λ b. set (key_block n byte key i) (0 + i) b) (sym one) ∙ more
