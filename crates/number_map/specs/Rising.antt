-- How a `RisingMap` is stored: a row of slots by rising number. The slot of a removed value stays for a
-- while.
use Rattle.std.specs.Prelude.{◌≡◌, ℕ, List, [], ◌∷◌, map, length, Option}
use Rattle.std.specs.List.Sorted.{IsStrictlySortedBy}
use Rattle.std.specs.Map.{lookup}
use Rattle.std.specs.Ordering.{nat_cmp, eq_by_cmp}
use Rattle.number_map.specs.Slots.{with_slot}
use Rattle.number_map.specs.declared.row.Slot.{Slot}

-- the value under the number
abbrev pub value_at : {V : Type 0} → List (ℕ × V) → ℕ → Option V
value_at entries number = lookup (eq_by_cmp nat_cmp number) entries

-- the numbers that have a value, each with it
abbrev pub pairs_of_slots : {V : Type 0} → List (Slot V) → List (ℕ × V)
pairs_of_slots [] = []
pairs_of_slots (slot ∷ slots) = with_slot slot.number slot.value (pairs_of_slots slots)

-- the numbers of the slots
abbrev pub numbers : {V : Type 0} → List (Slot V) → List ℕ
numbers slots = map (λ slot. slot.number) slots

-- the numbers rise, and the values are counted
pub record IsRising {V : Type 0} (slots : List (Slot V)) (count : ℕ) : Type 0 where
  pub rising : IsStrictlySortedBy nat_cmp (numbers slots)
  pub counted : count ≡ length (pairs_of_slots slots)
