-- The model of a row of slots by rising number, and how each change changes it.
use Rattle.std.proofs.Common.{◌≡◌, ◌≢◌, ℕ, zero, suc, ◌+◌, ◌-◌, ◌<◌, ◌≤◌, Bool, true, false, cond, List, [], ◌∷◌, ◌++◌, length, set, get_or, Option, Some, None, is_some, inl, inr, refl, sym, ap, subst, ◌∙◌, arith, Less, Equal, Greater, filter}
use Rattle.std.proofs.lemmas.Bool.{cases_lt}
use Rattle.std.proofs.lemmas.Map.Keys.{sorted_head, sorted_tail, below_from_sorted}
use Rattle.std.specs.List.{AllByRecursion, slice_get, insert}
use Rattle.std.specs.List.Sorted.{IsStrictlySortedBy}
use Rattle.std.specs.Map.{keys_of, remove_entry}
use Rattle.std.specs.BTreeMap.{insert_entry}
use Rattle.std.specs.Ordering.{nat_cmp, eq_by_cmp, is_eq, match_ordering}
use Rattle.std.specs.Cmp.{nat_cmp_is, ranked}
use Rattle.number_map.specs.Slots.{with_slot}
use Rattle.number_map.specs.Rising.{value_at, pairs_of_slots, numbers, IsRising}
use Rattle.number_map.specs.declared.row.Slot.{Slot}
use Rattle.number_map.proofs.NumberTests.{tied, untied}
use Rattle.number_map.proofs.SlotLemmas.{IsBelow}

abbrev pub IsSorted : List ℕ → Type 0
IsSorted = IsStrictlySortedBy nat_cmp

sorted_none : IsSorted []
unfolding IsStrictlySortedBy
sorted_none = tt

sorted_cons : (k : ℕ) (ks : List ℕ) → IsBelow k ks → IsSorted ks → IsSorted (k ∷ ks)
unfolding IsStrictlySortedBy
sorted_cons k ks head tail = (head, tail)

below_is : (a b : ℕ) → a < b → nat_cmp a b ≡ Less
below_is a b lower = sym (nat_cmp_is a b Less lower)

above_is : (a b : ℕ) → b < a → nat_cmp a b ≡ Greater
above_is a b lower = sym (nat_cmp_is a b Greater lower)

is_below : (a b : ℕ) → nat_cmp a b ≡ Less → a < b
is_below a b less = ranked a b Less (sym less)

all_front : (P : ℕ → Type 0) (ks ls : List ℕ) → AllByRecursion P (ks ++ ls) → AllByRecursion P ks
all_front P [] ls all = tt
all_front P (k ∷ ks) ls all = (all.0, all_front P ks ls all.1)

sorted_front : (ks ls : List ℕ) → IsSorted (ks ++ ls) → IsSorted ks
sorted_front [] ls sorted = sorted_none
sorted_front (k ∷ ks) ls sorted =
    sorted_cons k ks (all_front (λ y. nat_cmp k y ≡ Less) ks ls (sorted_head nat_cmp k (ks ++ ls) sorted)) (sorted_front ks ls (sorted_tail nat_cmp k (ks ++ ls) sorted))

module _ {V : Type 0} where
  -- ---- a look-up, slot by slot

  skipped : (number other : ℕ) (o : Option V) (rest : List (ℕ × V)) → eq_by_cmp nat_cmp number other ≡ false → value_at (with_slot other o rest) number ≡ value_at rest number
  skipped number other None rest apart = refl
  skipped number other (Some v) rest apart = ap (λ b. cond b (Some v) (value_at rest number)) apart

  met : (number : ℕ) (o : Option V) (rest : List (ℕ × V)) → value_at rest number ≡ None → value_at (with_slot number o rest) number ≡ o
  met number None rest none = none
  met number (Some v) rest none = ap (λ b. cond b (Some v) (value_at rest number)) (tied number number refl)

  lower_missing : (number : ℕ) (slots : List (Slot V)) → IsBelow number (numbers slots) → value_at (pairs_of_slots slots) number ≡ None
  lower_missing number [] below = refl
  lower_missing number (s ∷ ss) below =
      skipped number s.number s.value (pairs_of_slots ss) (ap is_eq below.0) ∙ lower_missing number ss below.1

  below_got : (number : ℕ) (slots : List (Slot V)) (at : ℕ) (slot : Slot V) → IsBelow number (numbers slots) → slice_get slots at ≡ Some slot → number < slot.number
  below_got number [] at slot below got = absurd (cc)
  below_got number (s ∷ ss) zero slot below got =
      let same : s ≡ slot = cc in
      let here : s.number ≡ slot.number = ap (λ (x : Slot V). x.number) same in
      let lower : number < s.number = is_below number s.number below.0 in
      omega arith
  below_got number (s ∷ ss) (suc k) slot below got = below_got number ss k slot below.1 got

  above_first : (s : Slot V) (ss : List (Slot V)) (at : ℕ) (slot : Slot V) → IsSorted (numbers (s ∷ ss)) → slice_get ss at ≡ Some slot → s.number < slot.number
  above_first s ss at slot sorted got = below_got s.number ss at slot (sorted_head nat_cmp s.number (numbers ss) sorted) got

  -- the number of a slot has the slot's value
  pub found_at : (slots : List (Slot V)) (at : ℕ) (slot : Slot V) → IsSorted (numbers slots) → slice_get slots at ≡ Some slot → value_at (pairs_of_slots slots) slot.number ≡ slot.value
  found_at [] at slot sorted got = absurd (cc)
  found_at (s ∷ ss) zero slot sorted got =
      let same : s ≡ slot = cc in
      subst (λ (x : Slot V). value_at (with_slot s.number s.value (pairs_of_slots ss)) x.number ≡ x.value) same
      (met s.number s.value (pairs_of_slots ss) (lower_missing s.number ss (sorted_head nat_cmp s.number (numbers ss) sorted)))
  found_at (s ∷ ss) (suc k) slot sorted got =
      let above : s.number < slot.number = above_first s ss k slot sorted got in
      skipped slot.number s.number s.value (pairs_of_slots ss) (untied slot.number s.number (λ same. omega arith))
      ∙ found_at ss k slot (sorted_tail nat_cmp s.number (numbers ss) sorted) got

  -- a number that no slot has, has no value
  pub missing : (slots : List (Slot V)) (number : ℕ) → ((k : ℕ) → k < length slots → (get_or (numbers slots) k 0 ≢ number)) → value_at (pairs_of_slots slots) number ≡ None
  missing [] number none = refl
  missing (s ∷ ss) number none =
      skipped number s.number s.value (pairs_of_slots ss) (untied number s.number (λ same. none 0 (omega arith) (sym same)))
      ∙ missing ss number (λ k within. none (suc k) (omega arith))

  -- the number in a slot
  pub number_got : (slots : List (Slot V)) (at : ℕ) (slot : Slot V) → slice_get slots at ≡ Some slot → get_or (numbers slots) at 0 ≡ slot.number
  number_got [] at slot got = absurd (cc)
  number_got (s ∷ ss) zero slot got = let same : s ≡ slot = cc in ap (λ (x : Slot V). x.number) same
  number_got (s ∷ ss) (suc k) slot got = number_got ss k slot got

  pub length-numbers : (slots : List (Slot V)) → length (numbers slots) ≡ length slots
  length-numbers [] = refl
  length-numbers (s ∷ ss) = ap (λ n. suc n) (length-numbers ss)

  -- ---- numbers rise

  below_slot : (number other : ℕ) (o : Option V) (rest : List (ℕ × V)) → nat_cmp number other ≡ Less → IsBelow number (keys_of rest) → IsBelow number (keys_of (with_slot other o rest))
  below_slot number other None rest less all = all
  below_slot number other (Some v) rest less all = (less, all)

  below_filled : (number : ℕ) (slots : List (Slot V)) → IsBelow number (numbers slots) → IsBelow number (keys_of (pairs_of_slots slots))
  below_filled number [] below = tt
  below_filled number (s ∷ ss) below = below_slot number s.number s.value (pairs_of_slots ss) below.0 (below_filled number ss below.1)

  sorted_slot : (number : ℕ) (o : Option V) (rest : List (ℕ × V)) → IsBelow number (keys_of rest) → IsSorted (keys_of rest) → IsSorted (keys_of (with_slot number o rest))
  sorted_slot number None rest below sorted = sorted
  sorted_slot number (Some v) rest below sorted = sorted_cons number (keys_of rest) below sorted

  pub keys_rise : (slots : List (Slot V)) → IsSorted (numbers slots) → IsSorted (keys_of (pairs_of_slots slots))
  keys_rise [] sorted = sorted_none
  keys_rise (s ∷ ss) sorted =
      sorted_slot s.number s.value (pairs_of_slots ss) (below_filled s.number ss (sorted_head nat_cmp s.number (numbers ss) sorted)) (keys_rise ss (sorted_tail nat_cmp s.number (numbers ss) sorted))

  pub same_numbers : (slots : List (Slot V)) (at : ℕ) (old new : Slot V) → slice_get slots at ≡ Some old → new.number ≡ old.number → numbers (set slots at new) ≡ numbers slots
  same_numbers [] at old new got same = absurd (cc)
  same_numbers (s ∷ ss) zero old new got same =
      let here : s ≡ old = cc in
      ap (λ (n : ℕ). n ∷ numbers ss) (same ∙ ap (λ (x : Slot V). x.number) (sym here))
  same_numbers (s ∷ ss) (suc k) old new got same = ap (λ ns. s.number ∷ ns) (same_numbers ss k old new got same)

  -- ---- a value is removed

  removed_absent : (number : ℕ) (es : List (ℕ × V)) → value_at es number ≡ None → remove_entry (eq_by_cmp nat_cmp number) es ≡ es
  removed_absent number [] absent = refl
  removed_absent number (e ∷ es) absent =
      elim (eq_by_cmp nat_cmp number e.0) as (λ b. cond b (Some e.1) (value_at es number) ≡ None → cond b es (e ∷ remove_entry (eq_by_cmp nat_cmp number) es) ≡ e ∷ es) [
        | true ↦ λ h. absurd (cc)
        | false ↦ λ h. ap (λ rest. e ∷ rest) (removed_absent number es h)
      ] absent

  -- a value that isn't there is not removed
  pub none_removed : (number : ℕ) (es : List (ℕ × V)) → value_at es number ≡ None → es ≡ remove_entry (eq_by_cmp nat_cmp number) es
  none_removed number es absent = sym (removed_absent number es absent)

  removed_here : (number : ℕ) (o : Option V) (rest : List (ℕ × V)) → value_at rest number ≡ None → remove_entry (eq_by_cmp nat_cmp number) (with_slot number o rest) ≡ rest
  removed_here number None rest absent = removed_absent number rest absent
  removed_here number (Some v) rest absent = ap (λ b. cond b rest ((number, v) ∷ remove_entry (eq_by_cmp nat_cmp number) rest)) (tied number number refl)

  removed_after : (number other : ℕ) (o : Option V) (rest : List (ℕ × V)) → eq_by_cmp nat_cmp number other ≡ false → remove_entry (eq_by_cmp nat_cmp number) (with_slot other o rest) ≡ with_slot other o (remove_entry (eq_by_cmp nat_cmp number) rest)
  removed_after number other None rest apart = refl
  removed_after number other (Some v) rest apart = ap (λ b. cond b rest ((other, v) ∷ remove_entry (eq_by_cmp nat_cmp number) rest)) apart

  pub emptied : (slots : List (Slot V)) (at : ℕ) (slot : Slot V) → IsSorted (numbers slots) → slice_get slots at ≡ Some slot →
      pairs_of_slots (set slots at (record slot { value = None })) ≡ remove_entry (eq_by_cmp nat_cmp slot.number) (pairs_of_slots slots)
  emptied [] at slot sorted got = absurd (cc)
  emptied (s ∷ ss) zero slot sorted got =
      let same : s ≡ slot = cc in
      subst (λ (x : Slot V). pairs_of_slots ss ≡ remove_entry (eq_by_cmp nat_cmp x.number) (with_slot s.number s.value (pairs_of_slots ss))) same
      (sym (removed_here s.number s.value (pairs_of_slots ss) (lower_missing s.number ss (sorted_head nat_cmp s.number (numbers ss) sorted))))
  emptied (s ∷ ss) (suc k) slot sorted got =
      let above : s.number < slot.number = above_first s ss k slot sorted got in
      ap (with_slot s.number s.value) (emptied ss k slot (sorted_tail nat_cmp s.number (numbers ss) sorted) got)
      ∙ sym (removed_after slot.number s.number s.value (pairs_of_slots ss) (untied slot.number s.number (λ same. omega arith)))

  length_slot : (number : ℕ) (o : Option V) (rest : List (ℕ × V)) → length (with_slot number o rest) ≡ cond (is_some o) 1 0 + length rest
  length_slot number None rest = omega arith
  length_slot number (Some v) rest = omega arith

  pub length_filled : (slots : List (Slot V)) → length (pairs_of_slots slots) ≤ length slots
  length_filled [] = omega arith
  length_filled (s ∷ ss) = at_most s.value (length_filled ss)
    where
      at_most : (o : Option V) → length (pairs_of_slots ss) ≤ length ss → length (with_slot s.number o (pairs_of_slots ss)) ≤ length (s ∷ ss)
      at_most None less = omega arith
      at_most (Some v) less = omega arith

  -- no slots
  pub none_rising : (slots : List (Slot V)) → slots ≡ [] → IsRising slots 0
  none_rising slots none = subst (λ (ss : List (Slot V)). IsRising ss 0) (sym none) (record { rising = sorted_none; counted = refl })

  -- how the number of values changes once the slot has this value
  pub length_set : (slots : List (Slot V)) (at : ℕ) (old new : Slot V) → slice_get slots at ≡ Some old →
      length (pairs_of_slots (set slots at new)) + cond (is_some old.value) 1 0 ≡ length (pairs_of_slots slots) + cond (is_some new.value) 1 0
  length_set [] at old new got = absurd (cc)
  length_set (s ∷ ss) zero old new got =
      let same : s ≡ old = cc in
      let here : cond {A = ℕ} (is_some s.value) 1 0 ≡ cond (is_some old.value) 1 0 = ap (λ (x : Slot V). cond {A = ℕ} (is_some x.value) 1 0) same in
      let sum : length (with_slot new.number new.value (pairs_of_slots ss)) + cond (is_some old.value) 1 0 ≡ length (with_slot s.number s.value (pairs_of_slots ss)) + cond (is_some new.value) 1 0
      = omega (arith, length_slot new.number new.value (pairs_of_slots ss), length_slot s.number s.value (pairs_of_slots ss)) in
      sum
  length_set (s ∷ ss) (suc k) old new got =
      omega (arith, length_set ss k old new got, length_slot s.number s.value (pairs_of_slots (set ss k new)), length_slot s.number s.value (pairs_of_slots ss))

  -- ---- a value is put

  lower_put : (number : ℕ) (v : V) (es : List (ℕ × V)) → IsBelow number (keys_of es) → insert_entry nat_cmp es number v ≡ (number, v) ∷ es
  lower_put number v [] below = refl
  lower_put number v (e ∷ es) below =
      ap (λ o. match_ordering o ((number, v) ∷ e ∷ es) ((e.0, v) ∷ es) (e ∷ insert_entry nat_cmp es number v)) below.0

  put_here : (number : ℕ) (o : Option V) (v : V) (rest : List (ℕ × V)) → IsBelow number (keys_of rest) → insert_entry nat_cmp (with_slot number o rest) number v ≡ (number, v) ∷ rest
  put_here number None v rest below = lower_put number v rest below
  put_here number (Some w) v rest below =
      ap (λ o. match_ordering o ((number, v) ∷ (number, w) ∷ rest) ((number, v) ∷ rest) ((number, w) ∷ insert_entry nat_cmp rest number v)) (sym (nat_cmp_is number number Equal refl))

  put_after : (number other : ℕ) (o : Option V) (v : V) (rest : List (ℕ × V)) → other < number → insert_entry nat_cmp (with_slot other o rest) number v ≡ with_slot other o (insert_entry nat_cmp rest number v)
  put_after number other None v rest lower = refl
  put_after number other (Some w) v rest lower =
      ap (λ o. match_ordering o ((number, v) ∷ (other, w) ∷ rest) ((other, v) ∷ rest) ((other, w) ∷ insert_entry nat_cmp rest number v)) (above_is number other lower)

  pub replaced : (slots : List (Slot V)) (at : ℕ) (slot : Slot V) (number : ℕ) (v : V) → IsSorted (numbers slots) → slice_get slots at ≡ Some slot → slot.number ≡ number →
      pairs_of_slots (set slots at (record { number = number; value = Some v })) ≡ insert_entry nat_cmp (pairs_of_slots slots) number v
  replaced [] at slot number v sorted got is = absurd (cc)
  replaced (s ∷ ss) zero slot number v sorted got is =
      let same : s ≡ slot = cc in
      let here : s.number ≡ number = ap (λ (x : Slot V). x.number) same ∙ is in
      subst (λ (n : ℕ). (n, v) ∷ pairs_of_slots ss ≡ insert_entry nat_cmp (with_slot s.number s.value (pairs_of_slots ss)) n v) here
      (sym (put_here s.number s.value v (pairs_of_slots ss) (below_filled s.number ss (sorted_head nat_cmp s.number (numbers ss) sorted))))
  replaced (s ∷ ss) (suc k) slot number v sorted got is =
      let above : s.number < slot.number = above_first s ss k slot sorted got in
      ap (with_slot s.number s.value) (replaced ss k slot number v (sorted_tail nat_cmp s.number (numbers ss) sorted) got is)
      ∙ sym (put_after number s.number s.value v (pairs_of_slots ss) (omega arith))

  -- a number above the last one is above all
  pub all_lower : (slots : List (Slot V)) (last : Slot V) (number : ℕ) → IsSorted (numbers slots) → slice_get slots (length slots - 1) ≡ Some last → last.number < number →
      (k : ℕ) → k < length slots → get_or (numbers slots) k 0 < number
  all_lower slots last number sorted got lower k within =
      let end : get_or (numbers slots) (length slots - 1) 0 ≡ last.number = number_got slots (length slots - 1) last got in
      let long : length (numbers slots) ≡ length slots = length-numbers slots in
      elim (cases_lt k (length slots - 1)) [
        | inl before ↦
            let rises : get_or (numbers slots) k 0 < get_or (numbers slots) (length slots - 1) 0 = below_from_sorted (numbers slots) k (length slots - 1) 0 sorted before (omega arith) in
            omega arith
        | inr later_place ↦
            let same : k ≡ length slots - 1 = omega arith in
            let here : get_or (numbers slots) k 0 ≡ get_or (numbers slots) (length slots - 1) 0 = ap (λ n. get_or (numbers slots) n 0) same in
            omega arith
      ]

  -- every number before the place is lower, and every one from there on higher
  pub record Parts (slots : List (Slot V)) (at number : ℕ) : Type 0 where
    pub within : at ≤ length slots
    pub lower : (k : ℕ) → k < at → get_or (numbers slots) k 0 < number
    pub higher : (k : ℕ) → at ≤ k → k < length slots → number < get_or (numbers slots) k 0

  next_parts : (s : Slot V) (ss : List (Slot V)) (k number : ℕ) → Parts (s ∷ ss) (suc k) number → Parts ss k number
  next_parts s ss k number parts = record {
    within = let long = parts.within in omega arith;
    lower = λ j below. parts.lower (suc j) (omega arith);
    higher = λ j from below. parts.higher (suc j) (omega arith) (omega arith);
  }

  all_higher : (slots : List (Slot V)) (number : ℕ) → ((k : ℕ) → k < length slots → number < get_or (numbers slots) k 0) → IsBelow number (numbers slots)
  all_higher [] number higher = tt
  all_higher (s ∷ ss) number higher = (below_is number s.number (higher 0 (omega arith)), all_higher ss number (λ k below. higher (suc k) (omega arith)))

  pub inserted : (slots : List (Slot V)) (at number : ℕ) (v : V) → Parts slots at number →
      pairs_of_slots (insert slots at (record { number = number; value = Some v })) ≡ insert_entry nat_cmp (pairs_of_slots slots) number v
  inserted slots zero number v parts =
      sym (lower_put number v (pairs_of_slots slots) (below_filled number slots (all_higher slots number (λ k below. parts.higher k (omega arith) below))))
  inserted [] (suc k) number v parts = let long = parts.within in absurd (omega arith)
  inserted (s ∷ ss) (suc k) number v parts =
      ap (with_slot s.number s.value) (inserted ss k number v (next_parts s ss k number parts))
      ∙ sym (put_after number s.number s.value v (pairs_of_slots ss) (parts.lower 0 (omega arith)))

  all_inserted : (P : ℕ → Type 0) (slots : List (Slot V)) (at : ℕ) (slot : Slot V) → AllByRecursion P (numbers slots) → P slot.number → AllByRecursion P (numbers (insert slots at slot))
  all_inserted P slots zero slot all one = (one, all)
  all_inserted P [] (suc k) slot all one = (one, tt)
  all_inserted P (s ∷ ss) (suc k) slot all one = (all.0, all_inserted P ss k slot all.1 one)

  pub sorted_inserted : (slots : List (Slot V)) (at : ℕ) (slot : Slot V) → IsSorted (numbers slots) → Parts slots at slot.number → IsSorted (numbers (insert slots at slot))
  sorted_inserted slots zero slot sorted parts =
      sorted_cons slot.number (numbers slots) (all_higher slots slot.number (λ k below. parts.higher k (omega arith) below)) sorted
  sorted_inserted [] (suc k) slot sorted parts = let long = parts.within in absurd (omega arith)
  sorted_inserted (s ∷ ss) (suc k) slot sorted parts =
      sorted_cons s.number (numbers (insert ss k slot))
      (all_inserted (λ y. nat_cmp s.number y ≡ Less) ss k slot (sorted_head nat_cmp s.number (numbers ss) sorted) (below_is s.number slot.number (parts.lower 0 (omega arith))))
      (sorted_inserted ss k slot (sorted_tail nat_cmp s.number (numbers ss) sorted) (next_parts s ss k slot.number parts))

  pub length_inserted : (slots : List (Slot V)) (at : ℕ) (slot : Slot V) → length (pairs_of_slots (insert slots at slot)) ≡ length (pairs_of_slots slots) + cond (is_some slot.value) 1 0
  length_inserted slots zero slot = omega (arith, length_slot slot.number slot.value (pairs_of_slots slots))
  length_inserted [] (suc k) slot = omega (arith, length_slot slot.number slot.value (pairs_of_slots {V = V} []))
  length_inserted (s ∷ ss) (suc k) slot =
      omega (arith, length_inserted ss k slot, length_slot s.number s.value (pairs_of_slots (insert ss k slot)), length_slot s.number s.value (pairs_of_slots ss))

  -- after all others
  pub end_parts : (slots : List (Slot V)) (number : ℕ) → ((k : ℕ) → k < length slots → get_or (numbers slots) k 0 < number) → Parts slots (length slots) number
  end_parts slots number lower = record {
    within = omega arith;
    lower = lower;
    higher = λ k from below. absurd (omega arith);
  }

  -- ---- slots without a value are dropped

  pub popped : (slots : List (Slot V)) (slot : Slot V) → slot.value ≡ None → pairs_of_slots (slots ++ slot ∷ []) ≡ pairs_of_slots slots
  popped [] slot none = ap (λ o. with_slot slot.number o []) none
  popped (s ∷ ss) slot none = ap (with_slot s.number s.value) (popped ss slot none)

  numbers_append : (slots more : List (Slot V)) → numbers (slots ++ more) ≡ numbers slots ++ numbers more
  numbers_append [] more = refl
  numbers_append (s ∷ ss) more = ap (λ ns. s.number ∷ ns) (numbers_append ss more)

  pub sorted_popped : (slots : List (Slot V)) (slot : Slot V) → IsSorted (numbers (slots ++ slot ∷ [])) → IsSorted (numbers slots)
  sorted_popped slots slot sorted = sorted_front (numbers slots) (numbers (slot ∷ [])) (subst IsSorted (numbers_append slots (slot ∷ [])) sorted)

  abbrev pub is_filled : Slot V → Bool
  is_filled slot = is_some slot.value

  kept_slot : (s : Slot V) (o : Option V) → s.value ≡ o → (kept : List (Slot V)) (rest : List (ℕ × V)) → pairs_of_slots kept ≡ rest → pairs_of_slots (cond (is_some o) (s ∷ kept) kept) ≡ with_slot s.number o rest
  kept_slot s None is kept rest same = same
  kept_slot s (Some v) is kept rest same = ap (λ o. with_slot s.number o (pairs_of_slots kept)) is ∙ ap (λ es. (s.number, v) ∷ es) same

  pub kept_filled : (slots : List (Slot V)) → pairs_of_slots (filter is_filled slots) ≡ pairs_of_slots slots
  kept_filled [] = refl
  kept_filled (s ∷ ss) = kept_slot s s.value refl (filter is_filled ss) (pairs_of_slots ss) (kept_filled ss)

  all_kept : (P : ℕ → Type 0) (slots : List (Slot V)) → AllByRecursion P (numbers slots) → AllByRecursion P (numbers (filter is_filled slots))
  all_kept P [] all = tt
  all_kept P (s ∷ ss) all =
      elim (is_some s.value) as (λ b. AllByRecursion P (numbers (cond b (s ∷ filter is_filled ss) (filter is_filled ss)))) [
        | true ↦ (all.0, all_kept P ss all.1)
        | false ↦ all_kept P ss all.1
      ]

  pub sorted_kept : (slots : List (Slot V)) → IsSorted (numbers slots) → IsSorted (numbers (filter is_filled slots))
  sorted_kept [] sorted = sorted_none
  sorted_kept (s ∷ ss) sorted =
      elim (is_some s.value) as (λ b. IsSorted (numbers (cond b (s ∷ filter is_filled ss) (filter is_filled ss)))) [
        | true ↦ sorted_cons s.number (numbers (filter is_filled ss)) (all_kept (λ y. nat_cmp s.number y ≡ Less) ss (sorted_head nat_cmp s.number (numbers ss) sorted)) (sorted_kept ss (sorted_tail nat_cmp s.number (numbers ss) sorted))
        | false ↦ sorted_kept ss (sorted_tail nat_cmp s.number (numbers ss) sorted)
      ]
