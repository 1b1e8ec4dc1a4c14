-- The number that 16 bytes write, and xor with a list that is longer than needed.
use Rattle.std.proofs.Common.{◌≡◌, ℕ, suc, ◌≤◌, List, [], ◌∷◌, ◌++◌, length, take, get_or, map, refl, ap, sym, ◌∙◌, arith}
use Rattle.std.proofs.lemmas.List.FromFn.{fill_by_all}
use Rattle.std.specs.Prelude.{bit_xor}
use Rattle.std.specs.Int.{w128, from_be_bytes}
use Rattle.std.specs.Int.Bits.{xor_self, xor_zero_r, xor_assoc}
use Rattle.std.specs.List.{range_with_len}
use Rattle.byte_words.specs.Numbers.{big_endian_value, little_endian_value}
use Rattle.byte_words.specs.Xor.{xor_bytes}

-- a list of 16 numbers, one by one
listed : (xs : List ℕ) → length xs ≡ 16 → map (λ i. get_or xs i 0) (range_with_len 0 16) ≡ xs
listed xs size = sym (fill_by_all (λ i. get_or xs i 0) xs 16 0 size (λ k low. refl))

spelled : (xs : List ℕ) → from_be_bytes w128 xs ≡ big_endian_value (map (λ i. get_or xs i 0) (range_with_len 0 16))
unfolding big_endian_value little_endian_value
spelled xs = omega arith

-- `from_be_bytes` of the library is the same number
pub from_be_bytes-value : (xs : List ℕ) → length xs ≡ 16 → from_be_bytes w128 xs ≡ big_endian_value xs
from_be_bytes-value xs size = spelled xs ∙ ap big_endian_value (listed xs size)

-- the bytes past the length of the first list make no difference
pub xor_bytes-longer : (xs ys zs : List ℕ) → length xs ≤ length ys → xor_bytes xs (ys ++ zs) ≡ xor_bytes xs ys
unfolding xor_bytes
xor_bytes-longer [] ys zs long = refl
xor_bytes-longer (x ∷ xs) [] zs long = absurd (omega arith)
xor_bytes-longer (x ∷ xs) (y ∷ ys) zs long = ap (λ rest. bit_xor x y ∷ rest) (xor_bytes-longer xs ys zs (omega arith))

pub xor_bytes-take : (xs ys : List ℕ) → xor_bytes xs (take (length xs) ys) ≡ xor_bytes xs ys
unfolding xor_bytes
xor_bytes-take [] ys = refl
xor_bytes-take (x ∷ xs) [] = refl
xor_bytes-take (x ∷ xs) (y ∷ ys) = ap (λ rest. bit_xor x y ∷ rest) (xor_bytes-take xs ys)

-- xor twice with a list that is long enough
pub xor_bytes-back : (xs ys : List ℕ) → length xs ≤ length ys → xor_bytes (xor_bytes xs ys) ys ≡ xs
unfolding xor_bytes
xor_bytes-back [] ys long = refl
xor_bytes-back (x ∷ xs) [] long = absurd (omega arith)
xor_bytes-back (x ∷ xs) (y ∷ ys) long =
    let here : bit_xor (bit_xor x y) y ≡ x = xor_assoc x y y ∙ ap (λ z. bit_xor x z) (xor_self y) ∙ xor_zero_r x in
    (λ i. here i ∷ xor_bytes-back xs ys (omega arith) i)

pub length-xor_bytes_longer : (xs ys : List ℕ) → length xs ≤ length ys → length (xor_bytes xs ys) ≡ length xs
unfolding xor_bytes
length-xor_bytes_longer [] ys long = refl
length-xor_bytes_longer (x ∷ xs) [] long = absurd (omega arith)
length-xor_bytes_longer (x ∷ xs) (y ∷ ys) long = ap suc (length-xor_bytes_longer xs ys (omega arith))
