-- Lists that are made of bytes are bytes.
use Rattle.std.proofs.Common.{ℕ, zero, suc, ◌+◌, ◌*◌, ◌-◌, ◌<◌, List, [], ◌∷◌, ◌++◌, length, take, drop, replicate, sym, subst, arith, lit<}
use Rattle.std.proofs.lemmas.List.{get_or-drop}
use Rattle.byte_words.specs.Bytes.{AreBytes}
use Rattle.byte_words.specs.Blocks.{block_at, first_blocks}
use Rattle.byte_words.specs.Numbers.{little_endian_bytes, big_endian_bytes}
use Rattle.byte_words.specs.Xor.{xor_bytes, zero_filled}
use Rattle.byte_words.proofs.NumberLemmas.{little_endian_bytes-lt, big_endian_bytes-lt}
use Rattle.byte_words.proofs.XorLemmas.{xor_bytes-lt}

zero_is_byte : 0 < 256
zero_is_byte = lit< tt

pub AreBytes-nil : AreBytes []
AreBytes-nil i = zero_is_byte

pub AreBytes-cons : (x : ℕ) (xs : List ℕ) → x < 256 → AreBytes xs → AreBytes (x ∷ xs)
AreBytes-cons x xs first others zero = first
AreBytes-cons x xs first others (suc i) = others i

pub AreBytes-append : (xs ys : List ℕ) → AreBytes xs → AreBytes ys → AreBytes (xs ++ ys)
AreBytes-append [] ys left right i = right i
AreBytes-append (x ∷ xs) ys left right zero = left 0
AreBytes-append (x ∷ xs) ys left right (suc i) = AreBytes-append xs ys (λ k. left (suc k)) right i

pub AreBytes-take : (n : ℕ) (xs : List ℕ) → AreBytes xs → AreBytes (take n xs)
AreBytes-take zero xs bytes i = zero_is_byte
AreBytes-take (suc n) [] bytes i = zero_is_byte
AreBytes-take (suc n) (x ∷ xs) bytes zero = bytes 0
AreBytes-take (suc n) (x ∷ xs) bytes (suc i) = AreBytes-take n xs (λ k. bytes (suc k)) i

pub AreBytes-drop : (n : ℕ) (xs : List ℕ) → AreBytes xs → AreBytes (drop n xs)
AreBytes-drop n xs bytes i = let P : ℕ → Type 0 = λ b. b < 256 in subst P (sym (get_or-drop n xs i 0)) (bytes (n + i))

pub AreBytes-zeros : (n : ℕ) → AreBytes (replicate n 0)
AreBytes-zeros zero i = zero_is_byte
AreBytes-zeros (suc n) zero = zero_is_byte
AreBytes-zeros (suc n) (suc i) = AreBytes-zeros n i

pub AreBytes-zero_filled : (size : ℕ) (xs : List ℕ) → AreBytes xs → AreBytes (zero_filled size xs)
unfolding zero_filled
AreBytes-zero_filled size xs bytes = AreBytes-append xs (replicate (size - length xs) 0) bytes (AreBytes-zeros (size - length xs))

pub AreBytes-block_at : (size : ℕ) (xs : List ℕ) (j : ℕ) → AreBytes xs → AreBytes (block_at size xs j)
unfolding block_at
AreBytes-block_at size xs j bytes = AreBytes-take size (drop (size * j) xs) (AreBytes-drop (size * j) xs bytes)

pub AreBytes-first_blocks : (f : ℕ → List ℕ) (n : ℕ) → ((j : ℕ) → j < n → AreBytes (f j)) → AreBytes (first_blocks f n)
unfolding first_blocks
AreBytes-first_blocks f zero bytes i = zero_is_byte
AreBytes-first_blocks f (suc n) bytes i =
    AreBytes-append (first_blocks f n) (f n) (AreBytes-first_blocks f n (λ j low. bytes j (omega arith))) (bytes n (omega arith)) i

pub AreBytes-xor_bytes : (xs ys : List ℕ) → AreBytes xs → AreBytes ys → AreBytes (xor_bytes xs ys)
AreBytes-xor_bytes xs ys left right i = xor_bytes-lt xs ys left right i

pub AreBytes-little_endian_bytes : (count n : ℕ) → AreBytes (little_endian_bytes count n)
AreBytes-little_endian_bytes count n i = little_endian_bytes-lt count n i

pub AreBytes-big_endian_bytes : (count n : ℕ) → AreBytes (big_endian_bytes count n)
AreBytes-big_endian_bytes count n i = big_endian_bytes-lt count n i
