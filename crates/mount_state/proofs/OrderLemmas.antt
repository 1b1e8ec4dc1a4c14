-- Of the same things there is one list in order.
use Rattle.std.proofs.Common.{◌≡◌, ℕ, ◌<◌, Bool, true, false, cond, List, [], ◌∷◌, inl, inr, ◌⊎◌, refl, sym, ap, subst, ◌∙◌, arith}
use Rattle.std.specs.Bool.{⊤}
use Rattle.std.specs.List.{sum_by}
use Rattle.std.specs.declared.cmp.Ordering.{Ordering}
use Rattle.std.specs.declared.cmp.Ordering.TheVariants.{Less, Equal, Greater}
use Rattle.std.specs.Ordering.{ordering_reverse, is_lt, is_gt, is_eq}
use Rattle.std.specs.Cmp.{IsTotalOrder, IsStrictWeakOrder}
use Rattle.std.proofs.lemmas.Bool.{cases_Bool}
use Rattle.std.proofs.lemmas.Cmp.{tied_itself}
use Rattle.std.proofs.lemmas.List.Sorted.{ranks_by}
use Rattle.std.proofs.lemmas.List.Sums.{sum_by-cons}

reversed : (o : Ordering) → is_gt (ordering_reverse o) ≡ is_lt o
reversed Less = refl
reversed Equal = refl
reversed Greater = refl

neither : (o : Ordering) → is_lt o ≡ false → is_gt o ≡ false → is_eq o ≡ true
neither Less bad other = sym bad
neither Equal one other = refl
neither Greater one bad = sym bad

-- what ties in the order is the same
module _ {X : Type 0} (cmp : X → X → Ordering) (total : IsTotalOrder cmp) (same : (a b : X) → is_eq (cmp a b) ≡ true → a ≡ b) where
  abbrev below : X → X → Bool
  below a b = is_lt (cmp a b)

  pub order : IsStrictWeakOrder (λ (a : X) (b : X). is_lt (cmp a b))
  order = ranks_by total (λ (x : X). x)

  above_is : (a b : X) → is_gt (cmp a b) ≡ below b a
  above_is a b = ap is_gt (total.antisymm a b) ∙ reversed (cmp b a)

  same_from : (a b : X) → below a b ≡ false → below b a ≡ false → a ≡ b
  same_from a b up down = same a b (neither (cmp a b) up (above_is a b ∙ down))

  not_itself : (x : X) → below x x ≡ false
  not_itself x = ap is_lt (tied_itself total x)

  -- ---- how often an element occurs

  abbrev one : X → X → ℕ
  one z x = cond (is_eq (cmp z x)) 1 0

  abbrev pub count : X → List X → ℕ
  count z xs = sum_by (one z) xs

  pub at_head : (x : X) (xs : List X) → 0 < count x (x ∷ xs)
  at_head x xs =
      let parts = sum_by-cons (one x) x xs in
      let is : one x x ≡ 1 = ap (λ o. cond (is_eq o) 1 0) (tied_itself total x) in
      omega arith

  pub head_or_behind : (z x : X) (xs : List X) → 0 < count z (x ∷ xs) → (z ≡ x) ⊎ (0 < count z xs)
  head_or_behind z x xs there = elim (cases_Bool (is_eq (cmp z x))) [
    | inl is ↦ inl (same z x is)
    | inr other ↦ inr (
        let parts = sum_by-cons (one z) x xs in
        let none : one z x ≡ 0 = ap (λ b. cond b 1 0) other in
        omega arith)
  ]

  -- ---- lists in order

  abbrev pub Rises : List X → Type 0
  Rises [] = ⊤
  Rises (x ∷ xs) = ((z : X) → 0 < count z xs → below z x ≡ false) × Rises xs

  least : (x : X) (xs : List X) → Rises (x ∷ xs) → (z : X) → 0 < count z (x ∷ xs) → below z x ≡ false
  least x xs rises z there = elim (head_or_behind z x xs there) [
    | inl is ↦ ap (λ y. below y x) is ∙ not_itself x
    | inr behind ↦ rises.0 z behind
  ]

  pub unique : (xs ys : List X) → Rises xs → Rises ys → ((z : X) → count z xs ≡ count z ys) → xs ≡ ys
  unique [] [] up too alike = refl
  unique [] (y ∷ ys) up too alike =
      let here = at_head y ys in
      let none : count y [] ≡ 0 = refl in
      let tied = alike y in
      absurd (omega arith)
  unique (x ∷ xs) [] up too alike =
      let here = at_head x xs in
      let none : count x [] ≡ 0 = refl in
      let tied = alike x in
      absurd (omega arith)
  unique (x ∷ xs) (y ∷ ys) up too alike =
      let first : x ≡ y = same_from x y
      (least y ys too x (let here = at_head x xs in let tied = alike x in omega arith))
      (least x xs up y (let here = at_head y ys in let tied = alike y in omega arith)) in
      let rest : xs ≡ ys = unique xs ys up.1 too.1 (λ z.
      let parts = sum_by-cons (one z) x xs in
      let others = sum_by-cons (one z) y ys in
      let heads : one z x ≡ one z y = ap (one z) first in
      let tied = alike z in
      omega arith) in
      λ i. first i ∷ rest i

  -- ---- a list that is put in order thing by thing, each before the first that isn't below it

  module _ (put : X → List X → List X) (put_nil : (x : X) → put x [] ≡ x ∷ [])
      (put_cons : (x y : X) (ys : List X) → put x (y ∷ ys) ≡ cond (is_gt (cmp x y)) (y ∷ put x ys) (x ∷ y ∷ ys)) where
    put_count : (z x : X) (xs : List X) → count z (put x xs) ≡ count z (x ∷ xs)
    put_count z x [] = ap (count z) (put_nil x)
    put_count z x (y ∷ ys) = ap (count z) (put_cons x y ys) ∙ (elim (is_gt (cmp x y)) as (λ b. count z (cond b (y ∷ put x ys) (x ∷ y ∷ ys)) ≡ count z (x ∷ y ∷ ys)) [
      | true ↦
          let a = sum_by-cons (one z) y (put x ys) in
          let b = sum_by-cons (one z) x (y ∷ ys) in
          let c = sum_by-cons (one z) y ys in
          let d = sum_by-cons (one z) x ys in
          let e = put_count z x ys in
          omega arith
      | false ↦ refl
    ])

    put_rises : (x : X) (xs : List X) → Rises xs → Rises (put x xs)
    put_rises x [] rises = subst Rises (sym (put_nil x)) ((λ z there. let none : count z [] ≡ 0 = refl in absurd (omega arith)), tt)
    put_rises x (y ∷ ys) rises = subst Rises (sym (put_cons x y ys)) (by_case (put_rises x ys rises.1) (is_gt (cmp x y)) (above_is x y))
      where
        by_case : Rises (put x ys) → (b : Bool) → b ≡ below y x → Rises (cond b (y ∷ put x ys) (x ∷ y ∷ ys))
        by_case later true is = (
          (λ z there. elim (head_or_behind z x ys (let tied = put_count z x ys in omega arith)) [
            | inl at ↦ ap (λ w. below w y) at ∙ order.one_way y x (sym is)
            | inr behind ↦ rises.0 z behind
          ]),
          later,
        )
        by_case later false is = (
          (λ z there. elim (head_or_behind z y ys there) [
            | inl at ↦ ap (λ w. below w x) at ∙ sym is
            | inr behind ↦ order.chain z y x (rises.0 z behind) (sym is)
          ]),
          rises,
        )

    module _ (sort : List X → List X) (sort_nil : sort [] ≡ []) (sort_cons : (x : X) (xs : List X) → sort (x ∷ xs) ≡ put x (sort xs)) where
      pub order_count : (z : X) (xs : List X) → count z (sort xs) ≡ count z xs
      order_count z [] = ap (count z) sort_nil
      order_count z (x ∷ xs) =
          let s = ap (count z) (sort_cons x xs) in
          let a = put_count z x (sort xs) in
          let b = sum_by-cons (one z) x (sort xs) in
          let c = sum_by-cons (one z) x xs in
          let d = order_count z xs in
          omega arith

      pub order_rises : (xs : List X) → Rises (sort xs)
      order_rises [] = subst Rises (sym sort_nil) tt
      order_rises (x ∷ xs) = subst Rises (sym (sort_cons x xs)) (put_rises x (sort xs) (order_rises xs))
