-- Lemmas on words in bytes.
use Rattle.std.proofs.Common.{◌≡◌, ℕ, suc, ◌+◌, ◌≤◌, ◌<◌, List, [], ◌∷◌, length, take, drop, get_or, ap, ◌∙◌, arith, drop-cons}

-- the element at a place, and the elements after it
begun : (xs : List ℕ) (at next : ℕ) → next ≡ at + 1 → at < length xs → drop at xs ≡ get_or xs at 0 ∷ drop next xs
begun xs at next is within =
    let behind : suc at ≡ next = omega arith in
    drop-cons xs at 0 within ∙ ap (λ k. get_or xs at 0 ∷ drop k xs) behind

-- eight bytes from a place on
pub take_eight : (xs : List ℕ) (at : ℕ) → at + 8 ≤ length xs →
    take 8 (drop at xs)
    ≡ get_or xs at 0 ∷ get_or xs (at + 1) 0 ∷ get_or xs (at + 2) 0 ∷ get_or xs (at + 3) 0
    ∷ get_or xs (at + 4) 0 ∷ get_or xs (at + 5) 0 ∷ get_or xs (at + 6) 0 ∷ get_or xs (at + 7) 0 ∷ []
take_eight xs at within =
    ap (λ ys. take 8 ys) (begun xs at (at + 1) (omega arith) (omega arith))
    ∙ ap (λ ys. get_or xs at 0 ∷ take 7 ys) (begun xs (at + 1) (at + 2) (omega arith) (omega arith))
    ∙ ap (λ ys. get_or xs at 0 ∷ get_or xs (at + 1) 0 ∷ take 6 ys) (begun xs (at + 2) (at + 3) (omega arith) (omega arith))
    ∙ ap (λ ys. get_or xs at 0 ∷ get_or xs (at + 1) 0 ∷ get_or xs (at + 2) 0 ∷ take 5 ys) (begun xs (at + 3) (at + 4) (omega arith) (omega arith))
    ∙ ap (λ ys. get_or xs at 0 ∷ get_or xs (at + 1) 0 ∷ get_or xs (at + 2) 0 ∷ get_or xs (at + 3) 0 ∷ take 4 ys) (begun xs (at + 4) (at + 5) (omega arith) (omega arith))
    ∙ ap (λ ys. get_or xs at 0 ∷ get_or xs (at + 1) 0 ∷ get_or xs (at + 2) 0 ∷ get_or xs (at + 3) 0 ∷ get_or xs (at + 4) 0 ∷ take 3 ys)
    (begun xs (at + 5) (at + 6) (omega arith) (omega arith))
    ∙ ap (λ ys. get_or xs at 0 ∷ get_or xs (at + 1) 0 ∷ get_or xs (at + 2) 0 ∷ get_or xs (at + 3) 0 ∷ get_or xs (at + 4) 0 ∷ get_or xs (at + 5) 0 ∷ take 2 ys)
    (begun xs (at + 6) (at + 7) (omega arith) (omega arith))
    ∙ ap (λ ys. get_or xs at 0 ∷ get_or xs (at + 1) 0 ∷ get_or xs (at + 2) 0 ∷ get_or xs (at + 3) 0 ∷ get_or xs (at + 4) 0 ∷ get_or xs (at + 5) 0 ∷ get_or xs (at + 6) 0 ∷ take 1 ys)
    (begun xs (at + 7) (at + 8) (omega arith) (omega arith))
