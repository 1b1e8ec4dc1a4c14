-- Tweaks as the code makes them, and a block between two additions of its tweak.
use Rattle.std.proofs.Common.{[], ◌∷◌, ◌≡◌, ℕ, ◌+◌, ◌*◌, ◌/◌, ◌%◌, ◌^◌, ◌<◌, List, length, refl, ap, sym, ◌∙◌, arith, add-one, inl, inr}
use Rattle.std.proofs.lemmas.Bool.{cases_lt, lt-ltb, le-ltb}
use Rattle.std.proofs.lemmas.Nat.{shr-shr}
use Rattle.std.specs.Simd.Lanes.{digits_l}
use Rattle.std.specs.Prelude.{bit_xor, if◌then◌else◌}
use Rattle.byte_words.specs.Numbers.{little_endian_bytes}
use Rattle.byte_words.specs.Xor.{xor_bytes}
use Rattle.byte_words.proofs.NumberLemmas.{length-little_endian_bytes, little_endian_bytes-lt}
use Rattle.byte_words.proofs.XorLemmas.{length-xor_bytes, xor_bytes_twice, xor_bytes-lt}
use Rattle.aes_core.specs.Laws.{IsBlock}
use Rattle.xts_mode.specs.Xts.{times_alpha, tweak_at, tweaked}

-- the shift and the mask are the product by α
pub times_alpha_is : (t : ℕ) → t < 2 ^ 128 → bit_xor (t * 2 % 2 ^ 128) (t / 2 ^ 127 * 0x87) ≡ times_alpha t
unfolding times_alpha
times_alpha_is t fits = elim (cases_lt t (2 ^ 127)) [
  | inl low ↦
      let bit : t / 2 ^ 127 ≡ 0 = omega arith in
      let turned : t * 2 ≡ 2 * t = omega arith in
      (λ j. bit_xor (turned j % 2 ^ 128) (bit j * 0x87)) ∙ ap (λ b. bit_xor (2 * t % 2 ^ 128) (if b then 0 else 0x87)) (sym (lt-ltb t (2 ^ 127) low))
  | inr high ↦
      let bit : t / 2 ^ 127 ≡ 1 = omega arith in
      let turned : t * 2 ≡ 2 * t = omega arith in
      (λ j. bit_xor (turned j % 2 ^ 128) (bit j * 0x87)) ∙ ap (λ b. bit_xor (2 * t % 2 ^ 128) (if b then 0 else 0x87)) (sym (le-ltb t (2 ^ 127) high))
]

pub tweak_at_next : (key : List ℕ) (index j : ℕ) → tweak_at key index (j + 1) ≡ times_alpha (tweak_at key index j)
unfolding tweak_at
tweak_at_next key index j = rw add-one refl

mask_size : (t : ℕ) → length (little_endian_bytes 16 t) ≡ 16
mask_size t = length-little_endian_bytes 16 t

pub length-tweaked : (cipher : List ℕ → List ℕ) (t : ℕ) (b : List ℕ) → ((x : List ℕ) → length (cipher x) ≡ 16) → length (tweaked cipher t b) ≡ 16
unfolding tweaked
length-tweaked cipher t b sizes =
    length-xor_bytes (cipher (xor_bytes b (little_endian_bytes 16 t))) (little_endian_bytes 16 t) (sizes (xor_bytes b (little_endian_bytes 16 t)) ∙ sym (mask_size t))
    ∙ sizes (xor_bytes b (little_endian_bytes 16 t))

-- a block with a tweak added is a block
masked-IsBlock : (t : ℕ) (b : List ℕ) → IsBlock b → IsBlock (xor_bytes b (little_endian_bytes 16 t))
masked-IsBlock t b is = record {
  size = length-xor_bytes b (little_endian_bytes 16 t) (is.size ∙ sym (mask_size t)) ∙ is.size;
  bytes = xor_bytes-lt b (little_endian_bytes 16 t) is.bytes (little_endian_bytes-lt 16 t);
}

pub tweaked-IsBlock : (cipher : List ℕ → List ℕ) (t : ℕ) (b : List ℕ) → ((x : List ℕ) → IsBlock x → IsBlock (cipher x)) → IsBlock b → IsBlock (tweaked cipher t b)
unfolding tweaked
tweaked-IsBlock cipher t b blocks is =
    masked-IsBlock t (cipher (xor_bytes b (little_endian_bytes 16 t))) (blocks (xor_bytes b (little_endian_bytes 16 t)) (masked-IsBlock t b is))

-- the inverse undoes the cipher
pub tweaked-tweaked : (f g : List ℕ → List ℕ) (t : ℕ) (b : List ℕ) → ((x : List ℕ) → IsBlock x → IsBlock (f x)) → ((x : List ℕ) → IsBlock x → g (f x) ≡ x) → IsBlock b →
    tweaked g t (tweaked f t b) ≡ b
unfolding tweaked
tweaked-tweaked f g t b blocks undone is =
    let m : List ℕ = little_endian_bytes 16 t in
    let x : List ℕ = xor_bytes b m in
    let x_is : IsBlock x = masked-IsBlock t b is in
    let sealed_is : IsBlock (f x) = blocks x x_is in
    ap (λ y. xor_bytes (g y) m) (xor_bytes_twice (f x) m (sealed_is.size ∙ sym (mask_size t)))
    ∙ ap (λ y. xor_bytes y m) (undone x x_is) ∙ xor_bytes_twice b m (is.size ∙ sym (mask_size t))

-- the bits from k on, a byte further
one_byte_on : (k n q : ℕ) → q ≡ n / 2 ^ k → q / 256 ≡ n / 2 ^ (k + 8)
one_byte_on k n q is = ap (λ x. x / 256) is ∙ shr-shr n k 8

-- the digits to base 256 are the bytes
digits_are_bytes : (n : ℕ) → digits_l 256 16 n ≡ little_endian_bytes 16 n
digits_are_bytes n =
    let d1 : n / 256 ≡ n / 2 ^ 8 = refl in
    let d2 : n / 256 / 256 ≡ n / 2 ^ 16 = one_byte_on 8 n (n / 256) d1 in
    let d3 : n / 256 / 256 / 256 ≡ n / 2 ^ 24 = one_byte_on 16 n (n / 256 / 256) d2 in
    let d4 : n / 256 / 256 / 256 / 256 ≡ n / 2 ^ 32 = one_byte_on 24 n (n / 256 / 256 / 256) d3 in
    let d5 : n / 256 / 256 / 256 / 256 / 256 ≡ n / 2 ^ 40 = one_byte_on 32 n (n / 256 / 256 / 256 / 256) d4 in
    let d6 : n / 256 / 256 / 256 / 256 / 256 / 256 ≡ n / 2 ^ 48 = one_byte_on 40 n (n / 256 / 256 / 256 / 256 / 256) d5 in
    let d7 : n / 256 / 256 / 256 / 256 / 256 / 256 / 256 ≡ n / 2 ^ 56 = one_byte_on 48 n (n / 256 / 256 / 256 / 256 / 256 / 256) d6 in
    let d8 : n / 256 / 256 / 256 / 256 / 256 / 256 / 256 / 256 ≡ n / 2 ^ 64 = one_byte_on 56 n (n / 256 / 256 / 256 / 256 / 256 / 256 / 256) d7 in
    let d9 : n / 256 / 256 / 256 / 256 / 256 / 256 / 256 / 256 / 256 ≡ n / 2 ^ 72 = one_byte_on 64 n (n / 256 / 256 / 256 / 256 / 256 / 256 / 256 / 256) d8 in
    let d10 : n / 256 / 256 / 256 / 256 / 256 / 256 / 256 / 256 / 256 / 256 ≡ n / 2 ^ 80 = one_byte_on 72 n (n / 256 / 256 / 256 / 256 / 256 / 256 / 256 / 256 / 256) d9 in
    let d11 : n / 256 / 256 / 256 / 256 / 256 / 256 / 256 / 256 / 256 / 256 / 256 ≡ n / 2 ^ 88 = one_byte_on 80 n (n / 256 / 256 / 256 / 256 / 256 / 256 / 256 / 256 / 256 / 256) d10 in
    let d12 : n / 256 / 256 / 256 / 256 / 256 / 256 / 256 / 256 / 256 / 256 / 256 / 256 ≡ n / 2 ^ 96 = one_byte_on 88 n (n / 256 / 256 / 256 / 256 / 256 / 256 / 256 / 256 / 256 / 256 / 256) d11 in
    let d13 : n / 256 / 256 / 256 / 256 / 256 / 256 / 256 / 256 / 256 / 256 / 256 / 256 / 256 ≡ n / 2 ^ 104 = one_byte_on 96 n (n / 256 / 256 / 256 / 256 / 256 / 256 / 256 / 256 / 256 / 256 / 256 / 256) d12 in
    let d14 : n / 256 / 256 / 256 / 256 / 256 / 256 / 256 / 256 / 256 / 256 / 256 / 256 / 256 / 256 ≡ n / 2 ^ 112 = one_byte_on 104 n (n / 256 / 256 / 256 / 256 / 256 / 256 / 256 / 256 / 256 / 256 / 256 / 256 / 256) d13 in
    let d15 : n / 256 / 256 / 256 / 256 / 256 / 256 / 256 / 256 / 256 / 256 / 256 / 256 / 256 / 256 / 256 ≡ n / 2 ^ 120 = one_byte_on 112 n (n / 256 / 256 / 256 / 256 / 256 / 256 / 256 / 256 / 256 / 256 / 256 / 256 / 256 / 256) d14 in
    λ j. (n % 256) ∷ (d1 j % 256) ∷ (d2 j % 256) ∷ (d3 j % 256) ∷ (d4 j % 256) ∷ (d5 j % 256) ∷ (d6 j % 256) ∷ (d7 j % 256)
    ∷ (d8 j % 256) ∷ (d9 j % 256) ∷ (d10 j % 256) ∷ (d11 j % 256) ∷ (d12 j % 256) ∷ (d13 j % 256) ∷ (d14 j % 256) ∷ (d15 j % 256) ∷ []

-- a number of 16 bytes by its halves
pub bytes_of_halves : (n : ℕ) → digits_l 256 16 (n % 2 ^ 64 + 2 ^ 64 * (n / 2 ^ 64 + 0)) ≡ little_endian_bytes 16 n
bytes_of_halves n =
    let whole : n % 2 ^ 64 + 2 ^ 64 * (n / 2 ^ 64 + 0) ≡ n = omega arith in
    ap (digits_l 256 16) whole ∙ digits_are_bytes n
