-- Beginnings of lists.
use Rattle.std.proofs.Common.{◌≡◌, ℕ, ◌≤◌, List, [], ◌∷◌, ◌++◌, length, take, drop, map, get_or, sym, refl, ap, ◌∙◌, append-nil, append_assoc, length-append, take-append-drop, arith}
use Rattle.std.proofs.lemmas.List.{map-append}
use Rattle.call_history.specs.Prefix.{IsPrefix}

empty : {A : Type 0} (xs : List A) → length xs ≤ 0 → xs ≡ []
empty [] short = refl
empty (x ∷ xs) short = absurd (omega arith)

module _ {A : Type 0} where
  pub IsPrefix-refl : (xs : List A) → IsPrefix xs xs
  IsPrefix-refl xs = ([], append-nil xs)

  pub IsPrefix-nil : (xs : List A) → IsPrefix [] xs
  IsPrefix-nil xs = (xs, refl)

  pub IsPrefix-append : (xs ys : List A) → IsPrefix xs (xs ++ ys)
  IsPrefix-append xs ys = (ys, refl)

  pub IsPrefix-longer : (xs ys zs : List A) → IsPrefix xs ys → IsPrefix xs (ys ++ zs)
  IsPrefix-longer xs ys zs p = (p.0 ++ zs, sym (append_assoc xs p.0 zs) ∙ ap (λ (l : List A). l ++ zs) p.1)

  pub IsPrefix_trans : (xs ys zs : List A) → IsPrefix xs ys → IsPrefix ys zs → IsPrefix xs zs
  IsPrefix_trans xs ys zs p q = (p.0 ++ q.0, sym (append_assoc xs p.0 q.0) ∙ (ap (λ (l : List A). l ++ q.0) p.1 ∙ q.1))

  pub length-IsPrefix : (xs ys : List A) → IsPrefix xs ys → length xs ≤ length ys
  length-IsPrefix xs ys p = let long = sym (length-append xs p.0) ∙ ap length p.1 in omega arith

  pub take-IsPrefix : (xs ys : List A) → IsPrefix xs ys → take (length xs) ys ≡ xs
  take-IsPrefix xs ys p = ap (take (length xs)) (sym p.1) ∙ front xs p.0
    where
      front : (xs rest : List A) → take (length xs) (xs ++ rest) ≡ xs
      front [] rest = refl
      front (x ∷ xs) rest = ap (λ (l : List A). x ∷ l) (front xs rest)

  pub IsPrefix-take : (n : ℕ) (xs : List A) → IsPrefix (take n xs) xs
  IsPrefix-take n xs = (drop n xs, take-append-drop n xs)

  -- of two beginnings of one list the one that is no longer begins the other
  pub IsPrefix_shorter : (xs ys zs : List A) → IsPrefix xs zs → IsPrefix ys zs → length xs ≤ length ys → IsPrefix xs ys
  IsPrefix_shorter xs ys zs p q short = go xs ys p.0 q.0 (p.1 ∙ sym q.1) short
    where
      go : (xs ys r s : List A) → xs ++ r ≡ ys ++ s → length xs ≤ length ys → IsPrefix xs ys
      go [] ys r s e short = (ys, refl)
      go (x ∷ xs) [] r s e short = absurd (omega arith)
      go (x ∷ xs) (y ∷ ys) r s e short =
          let shared = go xs ys r s (ap (drop 1) e) (omega arith) in
          let first : x ≡ y = ap (λ (l : List A). get_or l 0 x) e in
          (shared.0, λ i. first i ∷ shared.1 i)

  -- a beginning that is as long is the whole
  pub IsPrefix_whole : (xs ys : List A) → IsPrefix xs ys → length ys ≤ length xs → ys ≡ xs
  IsPrefix_whole xs ys p long =
      let lengths = sym (length-append xs p.0) ∙ ap length p.1 in
      sym p.1 ∙ (ap (λ (l : List A). xs ++ l) (empty p.0 (omega arith)) ∙ append-nil xs)

  pub IsPrefix-map : {B : Type 0} (f : A → B) (xs ys : List A) → IsPrefix xs ys → IsPrefix (map f xs) (map f ys)
  IsPrefix-map f xs ys p = (map f p.0, sym (map-append f xs p.0) ∙ ap (map f) p.1)
