-- The xor of a block that was filled with zeros.
use Rattle.std.proofs.Common.{◌≡◌, ℕ, zero, suc, ◌+◌, ◌≤◌, List, [], ◌∷◌, ◌++◌, length, take, drop, replicate, refl, ap, ◌∙◌, arith}
use Rattle.std.specs.Prelude.{bit_xor}
use Rattle.std.specs.Int.Bits.{xor_self, xor_zero_l, xor_zero_r, xor_assoc}
use Rattle.byte_words.specs.Xor.{xor_bytes}

xor_nil : (xs : List ℕ) → xor_bytes xs [] ≡ []
unfolding xor_bytes
xor_nil [] = refl
xor_nil (x ∷ xs) = refl

xor_zeros : (ys : List ℕ) (n : ℕ) → length ys ≤ n → xor_bytes (replicate n 0) ys ≡ ys
unfolding xor_bytes
xor_zeros [] zero few = refl
xor_zeros [] (suc n) few = refl
xor_zeros (y ∷ ys) zero few = absurd (omega arith)
xor_zeros (y ∷ ys) (suc n) few = (λ i. xor_zero_l y i ∷ xor_zeros ys n (omega arith) i)

-- past the piece that was filled are the bytes of the mask
pub drop_filled : (piece mask : List ℕ) (n : ℕ) → length mask ≤ length piece + n → drop (length piece) (xor_bytes (piece ++ replicate n 0) mask) ≡ drop (length piece) mask
unfolding xor_bytes
drop_filled [] mask n few = xor_zeros mask n (omega arith)
drop_filled (x ∷ piece) [] n few = refl
drop_filled (x ∷ piece) (y ∷ mask) n few = drop_filled piece mask n (omega arith)

-- and before it, xored with the mask once more, the piece
pub xor_filled : (piece mask : List ℕ) (n : ℕ) → length piece ≤ length mask → xor_bytes (xor_bytes (piece ++ replicate n 0) mask) (take (length piece) mask) ≡ piece
unfolding xor_bytes
xor_filled [] mask n few = xor_nil (xor_bytes (replicate n 0) mask)
xor_filled (x ∷ piece) [] n few = absurd (omega arith)
xor_filled (x ∷ piece) (y ∷ mask) n few =
    let here : bit_xor (bit_xor x y) y ≡ x = xor_assoc x y y ∙ ap (λ z. bit_xor x z) (xor_self y) ∙ xor_zero_r x in
    (λ i. here i ∷ xor_filled piece mask n (omega arith) i)
