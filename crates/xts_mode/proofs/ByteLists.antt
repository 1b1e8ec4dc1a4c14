-- Parts of a list of bytes are bytes.
use Rattle.std.proofs.Common.{ℕ, zero, suc, List, [], ◌∷◌, ◌++◌, take, drop, arith}
use Rattle.aes_core.specs.Laws.{AreBytes}

pub append-AreBytes : (xs ys : List ℕ) → AreBytes xs → AreBytes ys → AreBytes (xs ++ ys)
append-AreBytes [] ys xb yb i = yb i
append-AreBytes (x ∷ xs) ys xb yb zero = xb 0
append-AreBytes (x ∷ xs) ys xb yb (suc i) = append-AreBytes xs ys (λ k. xb (suc k)) yb i

pub take-AreBytes : (n : ℕ) (xs : List ℕ) → AreBytes xs → AreBytes (take n xs)
take-AreBytes zero xs bytes i = omega arith
take-AreBytes (suc n) [] bytes i = omega arith
take-AreBytes (suc n) (x ∷ xs) bytes zero = bytes 0
take-AreBytes (suc n) (x ∷ xs) bytes (suc i) = take-AreBytes n xs (λ k. bytes (suc k)) i

pub drop-AreBytes : (n : ℕ) (xs : List ℕ) → AreBytes xs → AreBytes (drop n xs)
drop-AreBytes zero xs bytes i = bytes i
drop-AreBytes (suc n) [] bytes i = omega arith
drop-AreBytes (suc n) (x ∷ xs) bytes i = drop-AreBytes n xs (λ k. bytes (suc k)) i
