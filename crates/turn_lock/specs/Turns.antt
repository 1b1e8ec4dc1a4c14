-- The rule of the turn: how the two words, the value's history and what each seat knows fit together.
use Rattle.std.specs.Prelude.{◌≡◌, ◌≢◌, ℕ, ◌+◌, ◌≤◌, true, [], ◌∷◌, length, Option, Some}
use mathlib.Core.Option.{some}
use lib.ListN.{get_elem?}
use Rattle.atomic_table.specs.Table.{State}
use Rattle.call_history.specs.declared.TheConstants.{MAX_PLACES}
use Rattle.call_history.specs.Entries.{History, entries_by}
use Rattle.turn_lock.specs.declared.view.View.{View}
use Rattle.turn_lock.specs.Standing.{Standing, standing}
use Rattle.turn_lock.specs.Views.{Knows, calls_left_of_views, AreApart}

-- all that the table holds
abbrev pub TurnState : Type 0 → Type 0 → Type 0 → Type 0
TurnState V C R = State (Option (Standing V C R)) (View C R)

module _ {C R : Type 0} where
  -- Word 0 is the turn, which is free at 0, word 1 counts the calls. While the turn is free a value is at
  -- home, and the whole history has led to it
  pub record TurnInvariant {V : Type 0} (reaches : History C R → V → Type 0) (numbers allowance : ℕ)
      (s : TurnState V C R) : Type 0 where
    pub history : History C R
    pub turn : ℕ
    pub holder : ℕ
    pub words : s.words ≡ turn ∷ length history ∷ []
    pub free : turn ≡ 0 → (value : V) × (s.homes ≡ some (Some (standing value history)) ∷ [])
        × reaches history value
    pub taken : turn ≢ 0 → (v : View C R) × (get_elem? s.views holder ≡ some v) × (v.turn ≡ true)
    pub each : (j : ℕ) (v : View C R) → get_elem? s.views j ≡ some v → Knows numbers history turn holder j v
    pub apart : (i j : ℕ) (v w : View C R) → get_elem? s.views i ≡ some v → get_elem? s.views j ≡ some w
        → i ≢ j → AreApart v w
    pub callers : (caller : ℕ) → numbers ≤ caller → entries_by caller history ≡ []
    pub room : calls_left_of_views s.views + length history ≤ allowance
    pub small : allowance ≤ MAX_PLACES
