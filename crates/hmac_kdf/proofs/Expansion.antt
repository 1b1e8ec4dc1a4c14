-- HKDF's loop over the blocks of its output, and its salt.
use Rattle.std.proofs.Common.{◌≡◌, ℕ, ◌+◌, ◌-◌, ◌*◌, ◌<◌, ◌≤◌, List, [], ◌∷◌, ◌++◌, length, take, drop, min, replicate, false, nat_lt, if◌then◌else◌, refl, ap, sym, ◌∙◌, arith, add-one, zero-add, suc-mul, zero-mul, mul-le-mul_right, append-nil, length-append}
use Rattle.std.proofs.lemmas.List.{drop_all, length-replicate, replicate-append-replicate}
use Rattle.std.proofs.lemmas.Bool.{le-ltb}
use Rattle.std.proofs.lemmas.List.Edits.{paste_none}
use Rattle.std.proofs.lemmas.Grind.{div_ceil_times}
use Rattle.std.specs.Int.{div_ceil}
use Rattle.hmac_kdf.specs.Hmac.{Hash, hmac_with, xor_each, block_key}
use Rattle.byte_words.specs.Xor.{zero_filled}
use Rattle.hmac_kdf.specs.Hkdf.{salt_or_zeros, extracted, okm_block, okm_blocks}
use lib.Seq.{paste, take-length, take-append-add, drop-append-add, take-append_seam, drop-drop}

-- (i + 1) * n, and the part of it that is below len
pub piece_end : (len n i at : ℕ) → at ≡ i * n → at < len → min len ((i + 1) * n) ≡ at + min n (len - at)
piece_end len n i at e room =
    let more : (i + 1) * n ≡ i * n + n = rw (add-one, suc-mul) refl in
    omega arith

-- a piece written after what is there already
pub pasted-next : (d s t : List ℕ) (k : ℕ)
    → paste (paste d 0 s (length s)) (length s) t k ≡ paste d 0 (s ++ t) (length s + k)
pasted-next d s t k =
    let front : paste d 0 s (length s) ≡ s ++ drop (length s) d =
    ap (λ l. l ++ drop (0 + length s) d) (take-length s) ∙ ap (λ n. s ++ drop n d) (zero-add (length s)) in
    ap (λ p. paste p (length s) t k) front
    ∙ ap (λ l. l ++ take k t ++ drop (length s + k) (s ++ drop (length s) d)) (take-append_seam s (drop (length s) d))
    ∙ ap (λ l. s ++ take k t ++ l) (drop-append-add s (drop (length s) d) k ∙ drop-drop k (length s) d)
    ∙ sym (ap (λ n. take (length s + k) (s ++ t) ++ drop n d) (zero-add (length s + k))
    ∙ ap (λ l. l ++ drop (length s + k) d) (take-append-add s t k))

-- the next piece, cut at the end of the output
pub written-more : (d s t : List ℕ) (n i : ℕ) → length s ≡ i * n → length t ≡ n → i * n < length d
    → paste (paste d 0 s (min (length d) (i * n))) (i * n) t (min (length t) (length d - i * n))
    ≡ paste d 0 (s ++ t) (min (length d) ((i + 1) * n))
written-more d s t n i whole one room =
    let here : min (length d) (i * n) ≡ length s = omega arith in
    ap (λ k. paste (paste d 0 s k) (i * n) t (min (length t) (length d - i * n))) here
    ∙ ap (λ at. paste (paste d 0 s (length s)) at t (min (length t) (length d - i * n))) (sym whole)
    ∙ pasted-next d s t (min (length t) (length d - i * n))
    ∙ ap (λ k. paste d 0 (s ++ t) k)
    (ap (λ m. length s + min m (length d - i * n)) one
    ∙ sym (piece_end (length d) n i (length s) whole (rw whole room)
    ∙ ap (λ at. length s + min n (length d - at)) whole))

-- before the first block nothing is written
pub written-none : (d s : List ℕ) (n : ℕ) → d ≡ paste d 0 s (min (length d) (0 * n))
written-none d s n =
    let none : 0 ≡ min (length d) (0 * n) = rw zero-mul (omega arith) in
    paste_none d 0 s ∙ ap (paste d 0 s) none

-- the whole output is written
pub written-whole : (d s : List ℕ) (n : ℕ) → length d ≤ n → length d ≤ length s → paste d 0 s (min (length d) n) ≡ take (length d) s
written-whole d s n h long =
    let all : min (length d) n ≡ length d = omega arith in
    ap (paste d 0 s) all
    ∙ ap (λ l. take (length d) s ++ l) (drop_all (0 + length d) d (omega arith)) ∙ append-nil (take (length d) s)

-- a block that is asked for begins before the output's end
pub block_begins : (len n i count : ℕ) → 0 < n → count ≡ div_ceil len n → i < count → i * n < len
block_begins len n i count pos e h =
    let below : (i + 1) * n ≤ div_ceil len n * n = mul-le-mul_right n (omega arith) in
    let more : (i + 1) * n ≡ i * n + n = rw (add-one, suc-mul) refl in
    let near : div_ceil len n * n < len + n = (div_ceil_times len n pos).1 in
    omega arith

-- the lengths add up
pub length-more : (s t : List ℕ) (n i : ℕ) → length s ≡ i * n → length t ≡ n → length (s ++ t) ≡ (i + 1) * n
length-more s t n i whole one =
    let more : (i + 1) * n ≡ i * n + n = rw (add-one, suc-mul) refl in
    let both : length (s ++ t) ≡ length s + length t = length-append s t in
    omega arith

-- the two hashes of an HMAC over the block before, info and the number are the next block
pub okm_block-next : (h : Hash) (key info last block : List ℕ) (i : ℕ) → last ≡ okm_block h key info i
    → block ≡ h.digest (xor_each 0x5c (block_key h key)
    ++ h.digest (xor_each 0x36 (block_key h key) ++ (last ++ info ++ (i + 1) ∷ [])))
    → block ≡ okm_block h key info (i + 1)
unfolding okm_block hmac_with
okm_block-next h key info last block i before value =
    value ∙ ap (λ l. h.digest (xor_each 0x5c (block_key h key)
    ++ h.digest (xor_each 0x36 (block_key h key) ++ (l ++ info ++ (i + 1) ∷ [])))) before
    ∙ rw add-one refl

-- one block more
pub okm_blocks-next : (h : Hash) (key info : List ℕ) (i : ℕ)
    → okm_blocks h key info (i + 1) ≡ okm_blocks h key info i ++ okm_block h key info (i + 1)
unfolding okm_blocks
okm_blocks-next h key info i = rw add-one refl

-- the rest of a block is the rest after its first part
sub-zero_sum : (size block len : ℕ) → len ≡ size → size ≤ block → block - 0 ≡ size + (block - len)
sub-zero_sum size block len e h = omega arith

-- zeros at the end of no salt are those at the end of a salt of zeros
pub block_key-salt : (h : Hash) (salt : List ℕ) → h.size ≤ h.block → block_key h salt ≡ block_key h (salt_or_zeros h salt)
unfolding zero_filled
block_key-salt h [] small =
    let zeros : List ℕ = replicate h.size 0 in
    let long : length zeros ≡ h.size = length-replicate h.size 0 in
    let short : nat_lt h.block (length zeros) ≡ false = le-ltb h.block (length zeros) (rw long small) in
    let filled : replicate (h.block - 0) 0 ≡ zero_filled h.block zeros =
    ap (λ n. replicate n 0) (sub-zero_sum h.size h.block (length zeros) long small)
    ∙ sym (replicate-append-replicate h.size (h.block - length zeros) 0) in
    ap (λ b. zero_filled h.block (if b then h.digest [] else [])) (le-ltb h.block 0 (omega arith))
    ∙ filled ∙ ap (λ b. zero_filled h.block (if b then h.digest zeros else zeros)) (sym short)
block_key-salt h (x ∷ xs) small = refl

-- a key extracted under no salt is that under a salt of zeros
pub extracted-salt : (h : Hash) (salt ikm : List ℕ) → h.size ≤ h.block → hmac_with h salt ikm ≡ extracted h salt ikm
unfolding hmac_with extracted
extracted-salt h salt ikm small =
    ap (λ block. h.digest (xor_each 0x5c block ++ h.digest (xor_each 0x36 block ++ ikm))) (block_key-salt h salt small)

-- the same without a second piece of key material
pub extracted-alone : (h : Hash) (salt ikm : List ℕ) → h.size ≤ h.block → hmac_with h salt (ikm ++ []) ≡ extracted h salt ikm
extracted-alone h salt ikm small = ap (hmac_with h salt) (append-nil ikm) ∙ extracted-salt h salt ikm small

-- the state after the first i pieces of n bytes: the last block, and the blocks written over the start
pub record IsExpanding (h : Hash) (key info start out block : List ℕ) (filled i n : ℕ) : Type 0 where
  pub last : take filled block ≡ okm_block h key info i
  pub whole : length (okm_blocks h key info i) ≡ i * n
  pub written : out ≡ paste start 0 (okm_blocks h key info i) (min (length start) (i * n))
