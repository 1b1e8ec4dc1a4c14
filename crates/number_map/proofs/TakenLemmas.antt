-- The entries that remain after the value of a slot was removed.
use Rattle.std.proofs.Common.{◌≡◌, ℕ, zero, suc, ◌+◌, ◌<◌, cond, List, [], ◌∷◌, length, set, Option, Some, None, is_some, refl, sym, ap, subst, ◌∙◌, arith}
use Rattle.std.specs.List.{slice_get}
use Rattle.std.specs.Map.{remove_entry}
use Rattle.std.specs.Ordering.{nat_cmp, eq_by_cmp}
use Rattle.number_map.specs.Rising.{value_at, pairs_of_slots, numbers}
use Rattle.number_map.specs.declared.row.Slot.{Slot}
use Rattle.number_map.proofs.RowLemmas.{IsSorted, emptied, length_set, same_numbers, number_got}
use Rattle.number_map.proofs.RowSteps.{at_place, value_found}

module _ {V : Type 0} where
  has_slot : (slots : List (Slot V)) (at : ℕ) → at < length slots → (slot : Slot V) × (slice_get slots at ≡ Some slot)
  has_slot [] at within = absurd (omega arith)
  has_slot (s ∷ ss) zero within = (s, refl)
  has_slot (s ∷ ss) (suc k) within = has_slot ss k (omega arith)

  pub record Taken (slots new : List (Slot V)) (number : ℕ) (result : Option V) : Type 0 where
    pub value : value_at (pairs_of_slots slots) number ≡ result
    pub gone : pairs_of_slots new ≡ remove_entry (eq_by_cmp nat_cmp number) (pairs_of_slots slots)
    pub rising : IsSorted (numbers new)
    pub counted : length (pairs_of_slots new) + cond (is_some result) 1 0 ≡ length (pairs_of_slots slots)

  by_slot : (slots : List (Slot V)) (at number : ℕ) (slot : Slot V) → IsSorted (numbers slots) → slice_get slots at ≡ Some slot → at_place slots at ≡ number →
      Taken slots (set slots at (record slot { value = None })) number slot.value
  by_slot slots at number slot sorted got is = record {
    value = value_found slots at number slot sorted got is;
    gone =
        emptied slots at slot sorted got
        ∙ ap (λ n. remove_entry (eq_by_cmp nat_cmp n) (pairs_of_slots slots)) (sym (number_got slots at slot got) ∙ is);
    rising = subst IsSorted (sym (same_numbers slots at slot (record slot { value = None }) got refl)) sorted;
    counted = let all = length_set slots at slot (record slot { value = None }) got in omega arith;
  }

  pub taken : (slots new : List (Slot V)) (at number : ℕ) (result : Option V) → IsSorted (numbers slots) → (at < length slots) × (at_place slots at ≡ number) →
      ((slot : Slot V) → slice_get slots at ≡ Some slot → (result ≡ slot.value) × (new ≡ set slots at (record slot { value = None }))) → Taken slots new number result
  taken slots new at number result sorted there is =
      let found = has_slot slots at there.0 in
      let facts = is found.0 found.1 in
      subst (λ (o : Option V). Taken slots new number o) (sym facts.0)
      (subst (λ (ss : List (Slot V)). Taken slots ss number found.0.value) (sym facts.1) (by_slot slots at number found.0 sorted found.1 there.1))

  pub taken_none : (slots new : List (Slot V)) (number count : ℕ) (result : Option V) → Taken slots new number result → result ≡ None → count ≡ length (pairs_of_slots slots) → count ≡ length (pairs_of_slots new)
  taken_none slots new number count result taken none counted =
      let weight : cond {A = ℕ} (is_some result) 1 0 ≡ 0 = ap (λ (o : Option V). cond {A = ℕ} (is_some o) 1 0) none in
      let all = taken.counted in
      omega arith

  pub taken_some : (slots new : List (Slot V)) (number count : ℕ) (result : Option V) (v : V) → Taken slots new number result → result ≡ Some v → count ≡ length (pairs_of_slots slots) → count ≡ length (pairs_of_slots new) + 1
  taken_some slots new number count result v taken some counted =
      let weight : cond {A = ℕ} (is_some result) 1 0 ≡ 1 = ap (λ (o : Option V). cond {A = ℕ} (is_some o) 1 0) some in
      let all = taken.counted in
      omega arith
