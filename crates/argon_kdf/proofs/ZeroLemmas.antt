-- Memory that is wiped element by element.
use Rattle.std.proofs.Common.{◌≡◌, ℕ, zero, suc, ◌+◌, ◌<◌, List, [], ◌∷◌, ◌++◌, length, take, drop, map}
use Rattle.std.proofs.Common.{slice_index_or, slice_set, refl, ap, ◌∙◌, arith}

-- the elements before one are changed, and then it is
pub next_changed : {A : Type 0} (f : A → A) (d : A) (xs : List A) (i : ℕ) → i < length xs
    → slice_set (map f (take i xs) ++ drop i xs) i (f (slice_index_or (map f (take i xs) ++ drop i xs) i d))
    ≡ map f (take (suc i) xs) ++ drop (suc i) xs
next_changed f d [] i low = absurd (omega (arith, low))
next_changed f d (x ∷ xs) zero low = refl
next_changed f d (x ∷ xs) (suc i) low = ap (λ ys. f x ∷ ys) (next_changed f d xs i (omega (arith, low)))

-- the same with a counter's next value
pub next_counted : {A : Type 0} (f : A → A) (d : A) (xs : List A) (i : ℕ) → i < length xs
    → slice_set (map f (take i xs) ++ drop i xs) i (f (slice_index_or (map f (take i xs) ++ drop i xs) i d))
    ≡ map f (take (i + 1) xs) ++ drop (i + 1) xs
next_counted f d xs i low =
    let next : suc i ≡ i + 1 = omega arith in
    next_changed f d xs i low ∙ ap (λ n. map f (take n xs) ++ drop n xs) next
