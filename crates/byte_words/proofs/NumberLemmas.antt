-- Lemmas on numbers written as bytes.
use Rattle.std.proofs.Common.{◌≡◌, ℕ, zero, suc, ◌+◌, ◌*◌, ◌-◌, ◌/◌, ◌%◌, ◌^◌, ◌<◌, List, [], ◌∷◌, ◌++◌, length, take, get_or, refl, ap, sym, ◌∙◌, arith}
use Rattle.std.proofs.lemmas.List.{reverse-append, reverse-reverse, take_all, take_more, length-take-le}
use Rattle.std.proofs.lemmas.Nat.{mod_below, shr-shr, mod-pow-add, pow-add}
use Rattle.std.proofs.Math.Nat.{div-one, mod-one, pow-suc, mul_assoc}
use Rattle.std.specs.Prelude.{reverse}
use Rattle.std.specs.Int.{Width, byte_len, byte_at, byte_worth, bytes_low_first, sum_through, from_le_bytes}
use Rattle.byte_words.specs.Numbers.{little_endian_bytes, big_endian_bytes, little_endian_value, big_endian_value}

length-low_first : (from count n : ℕ) → length (bytes_low_first from count n) ≡ count
length-low_first from zero n = refl
length-low_first from (suc count) n = ap suc (length-low_first (suc from) count n)

pub length-little_endian_bytes : (count n : ℕ) → length (little_endian_bytes count n) ≡ count
length-little_endian_bytes count n = length-low_first 0 count n

pub length-big_endian_bytes : (count n : ℕ) → length (big_endian_bytes count n) ≡ count
length-big_endian_bytes zero n = refl
length-big_endian_bytes (suc count) n = ap suc (length-big_endian_bytes count n)

byte_at-lt : (i n : ℕ) → byte_at i n < 256
byte_at-lt zero n = mod_below n 256 (omega arith)
byte_at-lt (suc i) n = mod_below (n / 256 ^ suc i) 256 (omega arith)

low_first-lt : (from count n i : ℕ) → get_or (bytes_low_first from count n) i 0 < 256
low_first-lt from zero n i = omega arith
low_first-lt from (suc count) n zero = byte_at-lt from n
low_first-lt from (suc count) n (suc i) = low_first-lt (suc from) count n i

-- each of them is a byte
pub little_endian_bytes-lt : (count n i : ℕ) → get_or (little_endian_bytes count n) i 0 < 256
little_endian_bytes-lt count n i = low_first-lt 0 count n i

pub big_endian_bytes-lt : (count n i : ℕ) → get_or (big_endian_bytes count n) i 0 < 256
big_endian_bytes-lt zero n i = omega arith
big_endian_bytes-lt (suc count) n zero = byte_at-lt count n
big_endian_bytes-lt (suc count) n (suc i) = big_endian_bytes-lt count n i

pow_256 : (k : ℕ) → 256 ^ k ≡ 2 ^ (8 * k)
pow_256 zero = refl
pow_256 (suc k) =
    let next : 8 * k + 8 ≡ 8 * suc k = omega arith in
    pow-suc 256 k ∙ ap (λ x. x * 256) (pow_256 k) ∙ sym (pow-add 2 (8 * k) 8) ∙ ap (λ x. 2 ^ x) next

byte_at-is : (i n : ℕ) → byte_at i n ≡ n / 2 ^ (8 * i) % 2 ^ 8
byte_at-is zero n = ap (λ x. x % 256) (sym (div-one n))
byte_at-is (suc i) n = ap (λ x. n / x % 256) (pow_256 (suc i))

low_and_high : (a b : ℕ) → a + 256 * b ≡ b * 2 ^ 8 + a
low_and_high a b = omega arith

lowest : (a b : ℕ) → a < 256 → (a + 256 * b) % 256 ≡ a
lowest a b small = omega arith

higher : (a b : ℕ) → a < 256 → (a + 256 * b) / 256 ≡ b
higher a b small = omega arith

shifted : (c v b p : ℕ) → c + 256 * (v + b * p) ≡ c + 256 * v + b * (p * 256)
shifted c v b p = omega (arith, mul_assoc b p 256)

low_first-value : (from count n : ℕ) → little_endian_value (bytes_low_first from count n) ≡ n / 2 ^ (8 * from) % 2 ^ (8 * count)
unfolding little_endian_value
low_first-value from zero n = sym (mod-one (n / 2 ^ (8 * from)))
low_first-value from (suc count) n =
    let next : 8 * from + 8 ≡ 8 * suc from = omega arith in
    let wider : 8 * count + 8 ≡ 8 * suc count = omega arith in
    let rest : little_endian_value (bytes_low_first (suc from) count n) ≡ n / 2 ^ (8 * from) / 2 ^ 8 % 2 ^ (8 * count) =
    low_first-value (suc from) count n ∙ ap (λ k. n / 2 ^ k % 2 ^ (8 * count)) (sym next) ∙ ap (λ x. x % 2 ^ (8 * count)) (sym (shr-shr n (8 * from) 8)) in
    (λ i. byte_at-is from n i + 256 * rest i)
    ∙ low_and_high (n / 2 ^ (8 * from) % 2 ^ 8) (n / 2 ^ (8 * from) / 2 ^ 8 % 2 ^ (8 * count))
    ∙ sym (mod-pow-add (n / 2 ^ (8 * from)) (8 * count) 8) ∙ ap (λ k. n / 2 ^ (8 * from) % 2 ^ k) wider

-- the bytes write the number as far as they go
pub little_endian_value-bytes : (count n : ℕ) → little_endian_value (little_endian_bytes count n) ≡ n % 2 ^ (8 * count)
little_endian_value-bytes count n = low_first-value 0 count n ∙ ap (λ x. x % 2 ^ (8 * count)) (div-one n)

low_first_more : (from count n : ℕ) → bytes_low_first from (suc count) n ≡ bytes_low_first from count n ++ byte_at (from + count) n ∷ []
low_first_more from zero n = ap (λ i. byte_at i n ∷ []) (omega arith)
low_first_more from (suc count) n =
    let same : suc from + count ≡ from + suc count = omega arith in
    ap (λ xs. byte_at from n ∷ xs) (low_first_more (suc from) count n ∙ ap (λ i. bytes_low_first (suc from) count n ++ byte_at i n ∷ []) same)

pub big_endian_bytes-reverse : (count n : ℕ) → big_endian_bytes count n ≡ reverse (little_endian_bytes count n)
big_endian_bytes-reverse zero n = refl
big_endian_bytes-reverse (suc count) n =
    let here : 0 + count ≡ count = omega arith in
    ap (λ xs. byte_at count n ∷ xs) (big_endian_bytes-reverse count n)
    ∙ sym (reverse-append (bytes_low_first 0 count n) (byte_at count n ∷ []))
    ∙ ap reverse (ap (λ i. bytes_low_first 0 count n ++ byte_at i n ∷ []) (sym here) ∙ sym (low_first_more 0 count n))

pub big_endian_value-bytes : (count n : ℕ) → big_endian_value (big_endian_bytes count n) ≡ n % 2 ^ (8 * count)
unfolding big_endian_value
big_endian_value-bytes count n =
    ap (λ xs. little_endian_value (reverse xs)) (big_endian_bytes-reverse count n) ∙ ap little_endian_value (reverse-reverse (little_endian_bytes count n))
    ∙ little_endian_value-bytes count n

-- one byte more, at the end
pub little_endian_value_push : (bs : List ℕ) (b : ℕ) → little_endian_value (bs ++ b ∷ []) ≡ little_endian_value bs + b * 256 ^ length bs
unfolding little_endian_value
little_endian_value_push [] b = omega arith
little_endian_value_push (c ∷ bs) b =
    ap (λ v. c + 256 * v) (little_endian_value_push bs b) ∙ shifted c (little_endian_value bs) b (256 ^ length bs)
    ∙ ap (λ p. c + 256 * little_endian_value bs + b * p) (sym (pow-suc 256 (length bs)))

sum_through-value : (bs : List ℕ) (k : ℕ) → k < length bs → sum_through (λ i. byte_worth i (get_or bs i 0)) k ≡ little_endian_value (take (suc k) bs)
unfolding little_endian_value
sum_through-value [] k low = absurd (omega arith)
sum_through-value (b ∷ bs) zero low = omega arith
sum_through-value (b ∷ bs) (suc k) low =
    let inner : suc k < length (b ∷ bs) = low in
    let next : suc k + 1 ≡ suc (suc k) = omega arith in
    let here : length (take (suc k) (b ∷ bs)) ≡ suc k = length-take-le (suc k) (b ∷ bs) (omega arith) in
    let more : take (suc (suc k)) (b ∷ bs) ≡ take (suc k) (b ∷ bs) ++ get_or (b ∷ bs) (suc k) 0 ∷ [] = ap (λ n. take n (b ∷ bs)) (sym next) ∙ take_more (b ∷ bs) (suc k) 0 inner in
    ap (λ s. s + get_or (b ∷ bs) (suc k) 0 * 256 ^ suc k) (sum_through-value (b ∷ bs) k (omega arith))
    ∙ ap (λ n. little_endian_value (take (suc k) (b ∷ bs)) + get_or (b ∷ bs) (suc k) 0 * 256 ^ n) (sym here)
    ∙ sym (little_endian_value_push (take (suc k) (b ∷ bs)) (get_or (b ∷ bs) (suc k) 0)) ∙ ap little_endian_value (sym more)

-- `from_le_bytes` of the library is the same number
pub from_le_bytes-value : (w : Width) (bs : List ℕ) → 0 < byte_len w → length bs ≡ byte_len w → from_le_bytes w bs ≡ little_endian_value bs
from_le_bytes-value w bs some whole =
    let last : suc (byte_len w - 1) ≡ length bs = omega arith in
    sum_through-value bs (byte_len w - 1) (omega arith) ∙ ap (λ n. little_endian_value (take n bs)) last ∙ ap little_endian_value (take_all (length bs) bs (omega arith))

byte_at_next : (i n : ℕ) → byte_at (suc i) n ≡ byte_at i (n / 256)
byte_at_next i n =
    let next : 8 + 8 * i ≡ 8 * suc i = omega arith in
    byte_at-is (suc i) n ∙ ap (λ k. n / 2 ^ k % 256) (sym next) ∙ ap (λ x. x % 256) (sym (shr-shr n 8 (8 * i))) ∙ sym (byte_at-is i (n / 256))

low_first_next : (from count n : ℕ) → bytes_low_first (suc from) count n ≡ bytes_low_first from count (n / 256)
low_first_next from zero n = refl
low_first_next from (suc count) n = (λ i. byte_at_next from n i ∷ low_first_next (suc from) count n i)

-- the bytes that write a number are those that it was read from
pub little_endian_bytes-value : (bs : List ℕ) → ((i : ℕ) → get_or bs i 0 < 256) → little_endian_bytes (length bs) (little_endian_value bs) ≡ bs
unfolding little_endian_value
little_endian_bytes-value [] small = refl
little_endian_bytes-value (b ∷ bs) small =
    let low : (b + 256 * little_endian_value bs) % 256 ≡ b = lowest b (little_endian_value bs) (small 0) in
    let high : (b + 256 * little_endian_value bs) / 256 ≡ little_endian_value bs = higher b (little_endian_value bs) (small 0) in
    (λ i. low i ∷ (low_first_next 0 (length bs) (b + 256 * little_endian_value bs) ∙ ap (λ n. bytes_low_first 0 (length bs) n) high ∙ little_endian_bytes-value bs (λ k. small (suc k))) i)
