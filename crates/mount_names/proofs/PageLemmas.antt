-- The names of a page are the names at its positions when all are in order.
use Rattle.std.proofs.Common.{◌≡◌, ℕ, ◌+◌, ◌-◌, suc, ◌<◌, min, nat_lt, length, take, drop, ◌++◌, Bool, true, false, cond, List, [], ◌∷◌, get_or, Bor, inl, inr, ◌⊎◌, refl, sym, ap, subst, ◌∙◌, arith}
use Rattle.std.specs.Cmp.{IsStrictWeakOrder}
use Rattle.std.specs.Cmp.Lexicographic.{slice_cmp, nat_list_cmp_total}
use Rattle.std.specs.List.Sorted.{IsPermutation, IsSortedBy, IsSplitAroundBy}
use Rattle.std.specs.Ordering.{nat_cmp, is_gt}
use Rattle.std.proofs.lemmas.Bool.{cases_lt, lt-ltb, le-ltb}
use Rattle.std.proofs.lemmas.List.{append_assoc, drop_at, drop_min, length-append, length-drop, map-append, take_at, take_min}
use Rattle.std.proofs.lemmas.List.MinMax.{ranks_by}
use Rattle.std.proofs.lemmas.List.Sorted.{IsPermutation-map, sum_by-IsPermutation}
use Rattle.std.proofs.lemmas.List.Sums.{sum_by-append, sum_by-cons}
use Rattle.plain_tree.specs.Nodes.{Name}
use Rattle.mount_model.specs.ListAnswers.{put_in_order, in_order}
use Rattle.mount_names.specs.NamePages.{names_of}
use Rattle.mount_names.proofs.ListedLemmas.{below, order, one, count, at_head, head_or_behind, Rises, unique, order_count, order_rises}

-- the same test of what references are to
abbrev pub before : Bor Name → Bor Name → Bool
before a b = below a.now b.now

pub order_before : IsStrictWeakOrder before
order_before = ranks_by nat_list_cmp_total (λ (x : Bor Name). x.now)

-- ---- how many names there are in order

length_put : (x : Name) (xs : List Name) → length (put_in_order x xs) ≡ suc (length xs)
length_put x [] = refl
length_put x (y ∷ ys) = elim (is_gt (slice_cmp nat_cmp x y)) as (λ b. length (cond b (y ∷ put_in_order x ys) (x ∷ y ∷ ys)) ≡ suc (suc (length ys))) [
  | true ↦ ap suc (length_put x ys)
  | false ↦ refl
]

pub length_in_order : (xs : List Name) → length (in_order xs) ≡ length xs
length_in_order [] = refl
length_in_order (x ∷ xs) = length_put x (in_order xs) ∙ ap suc (length_in_order xs)

pub length_names : (ks : List (Bor Name)) → length (names_of ks) ≡ length ks
length_names [] = refl
length_names (k ∷ ks) = ap suc (length_names ks)

-- ---- the same names in another order, and names of which all of some come before all others

pub order_same : (xs ys : List Name) → IsPermutation xs ys → in_order ys ≡ in_order xs
order_same xs ys moved =
    unique (in_order ys) (in_order xs) (order_rises ys) (order_rises xs)
    (λ z. order_count z ys ∙ (sum_by-IsPermutation (one z) xs ys moved ∙ sym (order_count z xs)))

-- no name of the second list is below one of the first
abbrev Apart : List Name → List Name → Type 0
Apart xs ys = (x y : Name) → 0 < count x xs → 0 < count y ys → below y x ≡ false

joined_rises : (xs ys : List Name) → Rises xs → Rises ys → Apart xs ys → Rises (xs ++ ys)
joined_rises [] ys low high apart = high
joined_rises (x ∷ xs) ys low high apart = (
  (λ z there. elim (some_of z (omega (arith, sum_by-append (one z) xs ys))) [
    | inl first ↦ low.0 z first
    | inr second ↦ apart x z (at_head x xs) second
  ]),
  joined_rises xs ys low.1 high (λ a b here there. apart a b (let parts = sum_by-cons (one a) x xs in omega arith) there),
)
  where
    some_of : (z : Name) → 0 < count z xs + count z ys → (0 < count z xs) ⊎ (0 < count z ys)
    some_of z there = elim (cases_lt 0 (count z xs)) [
      | inl some ↦ inl some
      | inr none ↦ inr (omega arith)
    ]

order_joined : (xs ys : List Name) → Apart xs ys → in_order (xs ++ ys) ≡ in_order xs ++ in_order ys
order_joined xs ys apart =
    unique (in_order (xs ++ ys)) (in_order xs ++ in_order ys) (order_rises (xs ++ ys))
    (joined_rises (in_order xs) (in_order ys) (order_rises xs) (order_rises ys)
    (λ a b here there. apart a b (let same = order_count a xs in omega arith) (let same = order_count b ys in omega arith)))
    (λ z.
    let all = order_count z (xs ++ ys) in
    let parts = sum_by-append (one z) xs ys in
    let ordered = sum_by-append (one z) (in_order xs) (in_order ys) in
    let low = order_count z xs in
    let high = order_count z ys in
    omega arith)

-- ---- names around one of them: none of the front is above it, none of the back below

module _ (front back : List (Bor Name)) (x : Bor Name) (split : IsSplitAroundBy before front x back) where
  none_above : (ks : List (Bor Name)) → ((k : ℕ) (d : Bor Name) → k < length ks → before x (get_or ks k d) ≡ false) → (z : Name) → 0 < count z (names_of ks) → below x.now z ≡ false
  none_above [] each z there = let none : count z [] ≡ 0 = refl in absurd (omega arith)
  none_above (k ∷ ks) each z there = elim (head_or_behind z k.now (names_of ks) there) [
    | inl same ↦ ap (below x.now) same ∙ each 0 k (omega arith)
    | inr behind ↦ none_above ks (λ i d low. each (suc i) d (omega arith)) z behind
  ]

  none_below : (ks : List (Bor Name)) → ((k : ℕ) (d : Bor Name) → k < length ks → before (get_or ks k d) x ≡ false) → (z : Name) → 0 < count z (names_of ks) → below z x.now ≡ false
  none_below [] each z there = let none : count z [] ≡ 0 = refl in absurd (omega arith)
  none_below (k ∷ ks) each z there = elim (head_or_behind z k.now (names_of ks) there) [
    | inl same ↦ ap (λ y. below y x.now) same ∙ each 0 k (omega arith)
    | inr behind ↦ none_below ks (λ i d low. each (suc i) d (omega arith)) z behind
  ]

  low : (z : Name) → 0 < count z (names_of front) → below x.now z ≡ false
  low = none_above front split.0

  high : (y : Name) → 0 < count y (names_of back) → below y x.now ≡ false
  high = none_below back split.1

  front_apart : Apart (names_of front) (x.now ∷ names_of back)
  front_apart a b here there = elim (head_or_behind b x.now (names_of back) there) [
    | inl same ↦ ap (λ y. below y a) same ∙ low a here
    | inr behind ↦ order.chain b x.now a (high b behind) (low a here)
  ]

  back_apart : Apart (names_of front ++ x.now ∷ []) (names_of back)
  back_apart a b here there = elim (cases_lt 0 (count a (names_of front))) [
    | inl some ↦ order.chain b x.now a (high b there) (low a some)
    | inr none ↦ elim (head_or_behind a x.now [] (let parts = sum_by-append (one a) (names_of front) (x.now ∷ []) in omega arith)) [
      | inl same ↦ ap (below b) same ∙ high b there
      | inr never ↦ (let empty : count a [] ≡ 0 = refl in absurd (omega arith))
    ]
  ]

  module _ (names : List (Bor Name)) (moved : IsPermutation names (front ++ x ∷ back)) where
    all : in_order (names_of (front ++ x ∷ back)) ≡ in_order (names_of names)
    all = order_same (names_of names) (names_of (front ++ x ∷ back)) (IsPermutation-map (λ k. k.now) names (front ++ x ∷ back) moved)

    -- the front has the names that come first
    pub front_is : (n : ℕ) → length front ≡ n → in_order (names_of front) ≡ take n (in_order (names_of names))
    front_is n size =
        let parts : names_of (front ++ x ∷ back) ≡ names_of front ++ x.now ∷ names_of back = map-append (λ k. k.now) front (x ∷ back) in
        let ordered : in_order (names_of names) ≡ in_order (names_of front) ++ in_order (x.now ∷ names_of back)
        = sym all ∙ (ap in_order parts ∙ order_joined (names_of front) (x.now ∷ names_of back) front_apart) in
        sym (ap (take n) ordered ∙ take_at (in_order (names_of front)) (in_order (x.now ∷ names_of back)) n (length_in_order (names_of front) ∙ (length_names front ∙ size)))

    -- the back has the names after it
    pub back_is : (n : ℕ) → length front + 1 ≡ n → in_order (names_of back) ≡ drop n (in_order (names_of names))
    back_is n size =
        let parts : names_of (front ++ x ∷ back) ≡ (names_of front ++ x.now ∷ []) ++ names_of back
        = map-append (λ k. k.now) front (x ∷ back) ∙ sym (append_assoc (names_of front) (x.now ∷ []) (names_of back)) in
        let ordered : in_order (names_of names) ≡ in_order (names_of front ++ x.now ∷ []) ++ in_order (names_of back)
        = sym all ∙ (ap in_order parts ∙ order_joined (names_of front ++ x.now ∷ []) (names_of back) back_apart) in
        let many : length (in_order (names_of front ++ x.now ∷ [])) ≡ n
        = length_in_order (names_of front ++ x.now ∷ []) ∙ (ap length (sym (map-append (λ k. k.now) front (x ∷ []))) ∙ (length_names (front ++ x ∷ []) ∙ (length-append front (x ∷ []) ∙ size))) in
        sym (ap (drop n) ordered ∙ drop_at (in_order (names_of front ++ x.now ∷ [])) (in_order (names_of back)) n many)

-- ---- the page

module _ (names rest page : List (Bor Name)) (start from most : ℕ) (is : from ≡ min start (length names))
    (behind : in_order (names_of rest) ≡ drop from (in_order (names_of names))) where
  all_behind : in_order (names_of rest) ≡ drop start (in_order (names_of names))
  all_behind =
      let many : length names ≡ length (in_order (names_of names)) = sym (length_in_order (names_of names) ∙ length_names names) in
      behind ∙ (ap (λ n. drop n (in_order (names_of names))) (is ∙ ap (min start) many) ∙ drop_min start (in_order (names_of names)))

  left : length rest ≡ length (in_order (names_of names)) - start
  left = sym (length_in_order (names_of rest) ∙ length_names rest) ∙ (ap length all_behind ∙ length-drop start (in_order (names_of names)))

  pub page_names : in_order (names_of page) ≡ take (min most (length rest)) (in_order (names_of rest))
      → in_order (names_of page) ≡ take most (drop start (in_order (names_of names)))
  page_names first =
      let many : length rest ≡ length (in_order (names_of rest)) = sym (length_in_order (names_of rest) ∙ length_names rest) in
      first ∙ (ap (λ n. take (min most n) (in_order (names_of rest))) many ∙ (take_min most (in_order (names_of rest)) ∙ ap (take most) all_behind))

  pub more_is : nat_lt most (length rest) ≡ nat_lt (start + most) (length (in_order (names_of names)))
  more_is = elim (cases_lt (start + most) (length (in_order (names_of names)))) [
    | inl more ↦ lt-ltb most (length rest) (omega (arith, left, more)) ∙ sym (lt-ltb (start + most) (length (in_order (names_of names))) more)
    | inr few ↦ le-ltb most (length rest) (omega (arith, left, few)) ∙ sym (le-ltb (start + most) (length (in_order (names_of names))) few)
  ]

-- ---- names that are sorted

sorted_rises : (ks : List (Bor Name)) → IsSortedBy before ks → Rises (names_of ks)
sorted_rises [] up = tt
sorted_rises (x ∷ []) up = ((λ z there. let none : count z [] ≡ 0 = refl in absurd (omega arith)), tt)
sorted_rises (x ∷ y ∷ ys) up =
    let rest : Rises (names_of (y ∷ ys)) = sorted_rises (y ∷ ys) (λ k d low high.
    let next : suc k + 1 ≡ suc (k + 1) = omega arith in
    subst (λ (n : ℕ). before (get_or (x ∷ y ∷ ys) n d) (get_or (y ∷ ys) k d) ≡ false) next (up (suc k) d (omega arith) (omega (arith, high)))) in
    let first : before y x ≡ false = up 0 x (omega arith) (omega arith) in (
      (λ z there. elim (head_or_behind z y.now (names_of ys) there) [
        | inl same ↦ ap (λ w. below w x.now) same ∙ first
        | inr behind ↦ order.chain z y.now x.now (rest.0 z behind) first
      ]),
      rest,
    )

-- names that were sorted are the names in order
pub sorted_is : (ks sorted : List (Bor Name)) → IsPermutation ks sorted → IsSortedBy before sorted → names_of sorted ≡ in_order (names_of ks)
sorted_is ks sorted moved up =
    unique (names_of sorted) (in_order (names_of ks)) (sorted_rises sorted up) (order_rises (names_of ks))
    (λ z. sum_by-IsPermutation (one z) (names_of ks) (names_of sorted) (IsPermutation-map (λ k. k.now) ks sorted moved) ∙ sym (order_count z (names_of ks)))
