-- The index of a number among the nodes' numbers, and which of them entries have referred to.
use Rattle.std.proofs.Common.{◌≡◌, ◌≢◌, ℕ, ◌<◌, ◌≤◌, ◌==◌, Bool, true, false, List, [], ◌∷◌, length, get_or, set, Some, None, Result, Ok, Err, refl, sym, ap, ◌∙◌, subst, arith, nat_eq, inl, inr, ◌⊎◌}
use Rattle.std.specs.List.{list_any}
use Rattle.std.specs.List.Sorted.{IsSearchInRange, IsBinarySearchResult, IsNonDecreasingBy}
use Rattle.std.specs.Ordering.{nat_cmp, ordering_index}
use Rattle.std.specs.Result.{result_ok}
use Rattle.std.proofs.lemmas.Bool.{cases_eq, eq-eqb, ne_eqb}
use Rattle.std.proofs.lemmas.Bool.Decides.{nat_tests}
use Rattle.std.proofs.lemmas.Cmp.{ranked}
use Rattle.std.proofs.lemmas.List.{get_or-map, get_or-set_same, get_or-set_other, length-set}
use Rattle.std.proofs.lemmas.List.Folds.{list_any_none, list_any_at}
use Rattle.std.proofs.lemmas.List.Sorted.{IsNonDecreasingBy-from_default}
use Rattle.std.proofs.lemmas.Map.Keys.{below_from_sorted}
use Rattle.image_lines.specs.declared.round_of_lines.NodePlace.{NodePlace}
use Rattle.image_lines.specs.ChildFaults.{may_name_child}
use Rattle.image_lines.specs.Places.{numbers_at, DoRise}
use Rattle.image_lines.specs.Marks.{IsIndexOf, AreMarked}

pub length-numbers : (places : List NodePlace) → length (numbers_at places) ≡ length places
length-numbers [] = refl
length-numbers (p ∷ places) = let e = length-numbers places in omega (arith, e)

abbrev nowhere : NodePlace
nowhere = record { number = 0; at = 0 }

number_at : (places : List NodePlace) (i : ℕ) → i < length places → get_or (numbers_at places) i 0 ≡ (get_or places i nowhere).number
number_at places i lt = get_or-map (λ p. p.number) places i nowhere 0 lt

-- ---- the index of a number

module _ (places : List NodePlace) (rises : DoRise places) (number : ℕ) where
  below : (i j : ℕ) → i < j → j < length places → (get_or places i nowhere).number < (get_or places j nowhere).number
  below i j lt within =
      let long = length-numbers places in
      let less = below_from_sorted (numbers_at places) i j 0 rises lt (omega (arith, long)) in
      let at_i = number_at places i (omega arith) in
      let at_j = number_at places j within in
      omega (arith, less, at_i, at_j)

  comparisons_rise : IsNonDecreasingBy (λ p. ordering_index (nat_cmp p.number number)) places
  comparisons_rise = IsNonDecreasingBy-from_default (λ p. ordering_index (nat_cmp p.number number)) places nowhere (λ i j le in_range.
      let rise : (get_or places i nowhere).number ≤ (get_or places j nowhere).number = grind (arith, below i j, λ (same : i ≡ j). ap (λ k. (get_or places k nowhere).number) same) in
      grind (arith, nat_tests))

  pub searched : (r : Result ℕ ℕ) → IsSearchInRange r (length places) → IsBinarySearchResult (λ p. nat_cmp p.number number) places r
      → IsIndexOf (numbers_at places) number (result_ok r)
  searched (Ok at) in_range equal =
      let long = length-numbers places in
      let same : (get_or places at nowhere).number ≡ number = ranked _ number _ (sym (equal nowhere)) in
      (omega (arith, long, in_range), number_at places at in_range ∙ same)
  searched (Err at) in_range parted = list_any_none (nat_eq number) (numbers_at places) (λ k d lt.
      let long = length-numbers places in
      let within : k < length places = omega (arith, long, lt) in
      let other = elsewhere k within in
      ne_eqb number (get_or (numbers_at places) k d) (λ e. other (e ∙ get_or-map (λ p. p.number) places k nowhere d within)))
    where
      elsewhere : (k : ℕ) → k < length places → number ≢ (get_or places k nowhere).number
      elsewhere k lt e = grind (arith, λ (before : k < at). ranked _ number _ (sym ((parted comparisons_rise).0 k nowhere (omega arith) before)), λ (after : at ≤ k). ranked _ number _ (sym ((parted comparisons_rise).1 k nowhere after lt)))

-- ---- marks

found_among : (numbers : List ℕ) (number index : ℕ) → index < length numbers → get_or numbers index 0 ≡ number → list_any (nat_eq number) numbers ≡ true
found_among numbers number index lt is = list_any_at (nat_eq number) numbers index 0 lt (eq-eqb number (get_or numbers index 0) (sym is))

-- the answer if there is no such node, or it was marked, or neither
pub leads_nowhere : (numbers earlier : List ℕ) (child : ℕ) → IsIndexOf numbers child None → false ≡ may_name_child numbers earlier child
leads_nowhere numbers earlier child none = of (child == 0) refl
  where
    of : (b : Bool) → (child == 0) ≡ b → false ≡ may_name_child numbers earlier child
    of true e = rw e refl
    of false e = rw (e, none) refl

pub leads_twice : (numbers earlier : List ℕ) (marks : List Bool) (child index : ℕ) → AreMarked numbers earlier marks → IsIndexOf numbers child (Some index)
    → get_or marks index false ≡ true → false ≡ may_name_child numbers earlier child
leads_twice numbers earlier marks child index are is marked = of (child == 0) refl
  where
    there : list_any (nat_eq child) numbers ≡ true
    there = found_among numbers child index is.0 is.1

    earlier_too : list_any (nat_eq child) earlier ≡ true
    earlier_too = subst (λ n. list_any (nat_eq n) earlier ≡ true) is.1 (sym (are.each index is.0) ∙ marked)

    of : (b : Bool) → (child == 0) ≡ b → false ≡ may_name_child numbers earlier child
    of true e = rw e refl
    of false e = rw (e, there, earlier_too) refl

pub leads_once : (numbers earlier : List ℕ) (marks : List Bool) (child index : ℕ) → AreMarked numbers earlier marks → IsIndexOf numbers child (Some index)
    → (child == 0) ≡ false → get_or marks index false ≡ false → true ≡ may_name_child numbers earlier child
leads_once numbers earlier marks child index are is some unmarked =
    let there = found_among numbers child index is.0 is.1 in
    let new : list_any (nat_eq child) earlier ≡ false = subst (λ n. list_any (nat_eq n) earlier ≡ false) is.1 (sym (are.each index is.0) ∙ unmarked) in
    rw (some, there, new) refl

-- one mark more
module _ (places : List NodePlace) (rises : DoRise places) where
  apart : (i j : ℕ) → i ≢ j → i < length (numbers_at places) → j < length (numbers_at places) → get_or (numbers_at places) i 0 ≢ get_or (numbers_at places) j 0
  apart i j differ li lj e =
      grind (arith, λ (lt : i < j). below_from_sorted (numbers_at places) i j 0 rises lt lj, λ (lt : j < i). below_from_sorted (numbers_at places) j i 0 rises lt li)

  pub one_mark : (earlier : List ℕ) (marks : List Bool) (child index : ℕ) → AreMarked (numbers_at places) earlier marks → IsIndexOf (numbers_at places) child (Some index)
      → AreMarked (numbers_at places) (child ∷ earlier) (set marks index true)
  one_mark earlier marks child index are is = record { long = length-set marks index true ∙ are.long; each = λ i lt. at i lt (cases_eq i index) }
    where
      at : (i : ℕ) → i < length (numbers_at places) → (i ≡ index) ⊎ (i ≢ index)
          → get_or (set marks index true) i false ≡ list_any (nat_eq (get_or (numbers_at places) i 0)) (child ∷ earlier)
      at i lt (inl same) =
          let here : nat_eq (get_or (numbers_at places) i 0) child ≡ true = eq-eqb (get_or (numbers_at places) i 0) child (ap (λ k. get_or (numbers_at places) k 0) same ∙ is.1) in
          let within : index < length marks = omega (arith, is.0, are.long) in
          rw here (ap (λ k. get_or (set marks index true) k false) same ∙ get_or-set_same marks index true false within)
      at i lt (inr other) =
          let there : nat_eq (get_or (numbers_at places) i 0) child ≡ false = ne_eqb (get_or (numbers_at places) i 0) child (λ e. apart i index other lt is.0 (e ∙ sym is.1)) in
          rw there (get_or-set_other marks index i true false other ∙ are.each i lt)
