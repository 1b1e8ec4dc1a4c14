-- The results of the steps of a search, and the row after a slot was put.
use Rattle.std.proofs.Common.{◌≡◌, ◌≢◌, ℕ, ◌+◌, ◌<◌, ◌≤◌, true, cond, List, [], ◌∷◌, ◌++◌, length, set, get_or, Option, Some, None, is_some, is_none, inl, inr, refl, sym, ap, subst, ◌∙◌, arith}
use Rattle.std.proofs.lemmas.Bool.{cases_lt}
use Rattle.std.proofs.lemmas.Map.Keys.{below_from_sorted}
use Rattle.std.proofs.lemmas.List.Edits.{insert_end}
use Rattle.std.specs.List.{slice_get, insert}
use Rattle.std.specs.BTreeMap.{insert_entry}
use Rattle.std.specs.Ordering.{nat_cmp}
use Rattle.number_map.specs.Rising.{value_at, pairs_of_slots, numbers}
use Rattle.number_map.specs.declared.row.Slot.{Slot}
use Rattle.number_map.proofs.RowLemmas.{IsSorted, found_at, missing, number_got, length-numbers, length_set, same_numbers, replaced, Parts, inserted, sorted_inserted, length_inserted, end_parts}

module _ {V : Type 0} where
  abbrev pub at_place : List (Slot V) → ℕ → ℕ
  at_place slots k = get_or (numbers slots) k 0

  rises : (slots : List (Slot V)) (i j : ℕ) → IsSorted (numbers slots) → i < j → j < length slots → at_place slots i < at_place slots j
  rises slots i j sorted before within =
      let long : length (numbers slots) ≡ length slots = length-numbers slots in
      below_from_sorted (numbers slots) i j 0 sorted before (omega arith)

  pub lower_to : (slots : List (Slot V)) (mid number : ℕ) (slot : Slot V) → IsSorted (numbers slots) → mid < length slots → slice_get slots mid ≡ Some slot → slot.number < number →
      (k : ℕ) → k < mid + 1 → at_place slots k < number
  lower_to slots mid number slot sorted within got less k before =
      let here : at_place slots mid ≡ slot.number = number_got slots mid slot got in
      elim (cases_lt k mid) [
        | inl lower ↦ let up : at_place slots k < at_place slots mid = rises slots k mid sorted lower within in omega arith
        | inr higher ↦
            let is : k ≡ mid = omega arith in
            let same : at_place slots k ≡ at_place slots mid = ap (at_place slots) is in
            omega arith
      ]

  pub higher_from : (slots : List (Slot V)) (mid number : ℕ) (slot : Slot V) → IsSorted (numbers slots) → slice_get slots mid ≡ Some slot → number ≤ slot.number →
      (k : ℕ) → mid ≤ k → k < length slots → number ≤ at_place slots k
  higher_from slots mid number slot sorted got most k from within =
      let here : at_place slots mid ≡ slot.number = number_got slots mid slot got in
      elim (cases_lt mid k) [
        | inl lower ↦ let up : at_place slots mid < at_place slots k = rises slots mid k sorted lower within in omega arith
        | inr higher ↦
            let is : k ≡ mid = omega arith in
            let same : at_place slots k ≡ at_place slots mid = ap (at_place slots) is in
            omega arith
      ]

  -- a number has a slot only at the place where it would be put
  only_there : (slots : List (Slot V)) (at number : ℕ) → IsSorted (numbers slots) → ((k : ℕ) → k < at → at_place slots k < number) → ((k : ℕ) → at ≤ k → k < length slots → number ≤ at_place slots k) →
      ((at < length slots) × (at_place slots at ≡ number) → ⊥) → (k : ℕ) → k < length slots → (at_place slots k ≢ number)
  only_there slots at number sorted lower others lacks k within same =
      elim (cases_lt k at) [
        | inl before ↦ let less : at_place slots k < number = lower k before in absurd (omega arith)
        | inr later_place ↦
            elim (cases_lt at k) [
              | inl later ↦
                  let up : at_place slots at < at_place slots k = rises slots at k sorted later within in
                  let most : number ≤ at_place slots at = others at (omega arith) (omega arith) in
                  absurd (omega arith)
              | inr here ↦
                  let is : k ≡ at = omega arith in
                  lacks (omega arith, ap (at_place slots) (sym is) ∙ same)
            ]
      ]

  pub not_found : (slots : List (Slot V)) (at number : ℕ) → IsSorted (numbers slots) → ((k : ℕ) → k < at → at_place slots k < number) → ((k : ℕ) → at ≤ k → k < length slots → number ≤ at_place slots k) →
      ((at < length slots) × (at_place slots at ≡ number) → ⊥) → value_at (pairs_of_slots slots) number ≡ None
  not_found slots at number sorted lower others lacks = missing slots number (only_there slots at number sorted lower others lacks)

  pub none_above : (slots : List (Slot V)) (number : ℕ) → ((k : ℕ) → k < length slots → at_place slots k < number) → value_at (pairs_of_slots slots) number ≡ None
  none_above slots number lower = missing slots number (λ k within same. let less : at_place slots k < number = lower k within in omega arith)

  pub value_found : (slots : List (Slot V)) (at number : ℕ) (slot : Slot V) → IsSorted (numbers slots) → slice_get slots at ≡ Some slot → at_place slots at ≡ number → value_at (pairs_of_slots slots) number ≡ slot.value
  value_found slots at number slot sorted got is =
      ap (value_at (pairs_of_slots slots)) (sym is ∙ number_got slots at slot got) ∙ found_at slots at slot sorted got

  pub parts_of : (slots : List (Slot V)) (at number : ℕ) → IsSorted (numbers slots) → at ≤ length slots → ((k : ℕ) → k < at → at_place slots k < number) → ((k : ℕ) → at ≤ k → k < length slots → number ≤ at_place slots k) →
      ((at < length slots) × (at_place slots at ≡ number) → ⊥) → Parts slots at number
  parts_of slots at number sorted within lower others lacks = record {
    within = within;
    lower = lower;
    higher = λ k from below.
        let most : number ≤ at_place slots k = others k from below in
        let differ : at_place slots k ≢ number = only_there slots at number sorted lower others lacks k below in
        omega arith;
  }

  is_slot : (slot : Slot V) (v : V) → slot.value ≡ Some v → slot ≡ record { number = slot.number; value = Some v }
  is_slot slot v is = λ i. record { number = slot.number; value = is i }

  -- ---- a slot after all others

  module _ (slots : List (Slot V)) (slot : Slot V) (lower : (k : ℕ) → k < length slots → at_place slots k < slot.number) where
    pub pushed_put : (v : V) → slot.value ≡ Some v → pairs_of_slots (slots ++ slot ∷ []) ≡ insert_entry nat_cmp (pairs_of_slots slots) slot.number v
    pushed_put v is =
        ap pairs_of_slots (sym (insert_end slots slot)) ∙ ap (λ (s : Slot V). pairs_of_slots (insert slots (length slots) s)) (is_slot slot v is)
        ∙ inserted slots (length slots) slot.number v (end_parts slots slot.number lower)

    pub pushed_length : is_some slot.value ≡ true → length (pairs_of_slots (slots ++ slot ∷ [])) ≡ length (pairs_of_slots slots) + 1
    pushed_length some =
        ap (λ ss. length (pairs_of_slots ss)) (sym (insert_end slots slot)) ∙ length_inserted slots (length slots) slot ∙ ap (λ b. length (pairs_of_slots slots) + cond b 1 0) some

    pub pushed_sorted : IsSorted (numbers slots) → IsSorted (numbers (slots ++ slot ∷ []))
    pushed_sorted sorted =
        subst (λ (ss : List (Slot V)). IsSorted (numbers ss)) (insert_end slots slot) (sorted_inserted slots (length slots) slot sorted (end_parts slots slot.number lower))

  -- ---- a slot in the place of another one of its number

  module _ (slots : List (Slot V)) (at : ℕ) (old slot : Slot V) (got : slice_get slots at ≡ Some old) (same : at_place slots at ≡ slot.number) where
    number_is : old.number ≡ slot.number
    number_is = sym (number_got slots at old got) ∙ same

    pub set_put : IsSorted (numbers slots) → (v : V) → slot.value ≡ Some v → pairs_of_slots (set slots at slot) ≡ insert_entry nat_cmp (pairs_of_slots slots) slot.number v
    set_put sorted v is = ap (λ (s : Slot V). pairs_of_slots (set slots at s)) (is_slot slot v is) ∙ replaced slots at old slot.number v sorted got number_is

    pub set_sorted : IsSorted (numbers slots) → IsSorted (numbers (set slots at slot))
    set_sorted sorted = subst IsSorted (sym (same_numbers slots at old slot got (sym number_is))) sorted

    pub set_length : is_some slot.value ≡ true → length (pairs_of_slots (set slots at slot)) ≡ length (pairs_of_slots slots) + cond (is_none old.value) 1 0
    set_length some = by_value old.value refl
      where
        by_value : (o : Option V) → old.value ≡ o → length (pairs_of_slots (set slots at slot)) ≡ length (pairs_of_slots slots) + cond (is_none o) 1 0
        by_value None is =
            let weight : cond {A = ℕ} (is_some old.value) 1 0 ≡ 0 = ap (λ (x : Option V). cond {A = ℕ} (is_some x) 1 0) is in
            let new : cond {A = ℕ} (is_some slot.value) 1 0 ≡ 1 = ap (λ b. cond {A = ℕ} b 1 0) some in
            omega (arith, length_set slots at old slot got)
        by_value (Some v) is =
            let weight : cond {A = ℕ} (is_some old.value) 1 0 ≡ 1 = ap (λ (x : Option V). cond {A = ℕ} (is_some x) 1 0) is in
            let new : cond {A = ℕ} (is_some slot.value) 1 0 ≡ 1 = ap (λ b. cond {A = ℕ} b 1 0) some in
            omega (arith, length_set slots at old slot got)

  -- ---- a slot between others

  module _ (slots : List (Slot V)) (at : ℕ) (slot : Slot V) (parts : Parts slots at slot.number) where
    pub insert_put : (v : V) → slot.value ≡ Some v → pairs_of_slots (insert slots at slot) ≡ insert_entry nat_cmp (pairs_of_slots slots) slot.number v
    insert_put v is = ap (λ (s : Slot V). pairs_of_slots (insert slots at s)) (is_slot slot v is) ∙ inserted slots at slot.number v parts

    pub insert_length : is_some slot.value ≡ true → length (pairs_of_slots (insert slots at slot)) ≡ length (pairs_of_slots slots) + 1
    insert_length some = length_inserted slots at slot ∙ ap (λ b. length (pairs_of_slots slots) + cond b 1 0) some

    pub insert_sorted : IsSorted (numbers slots) → IsSorted (numbers (insert slots at slot))
    insert_sorted sorted = sorted_inserted slots at slot sorted parts
