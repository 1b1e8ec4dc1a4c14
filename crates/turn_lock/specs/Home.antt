-- The value that is at home while the turn is free.
use Rattle.std.specs.Prelude.{◌≡◌, ℕ, [], ◌∷◌, ◌++◌, length, slice_index, Some}
use mathlib.Core.Option.{some}
use lib.ListN.{get_elem?}
use Rattle.call_history.specs.Entries.{History, by, entries_by}
use Rattle.call_history.specs.Prefix.{IsPrefix}
use Rattle.turn_lock.specs.declared.view.View.{View}
use Rattle.turn_lock.specs.Standing.{Standing}
use Rattle.turn_lock.specs.Turns.{TurnState}
use Rattle.turn_lock.specs.Views.{Owns}

-- The value is at home and is reached by this history, which is lawful and as long as the count. The
-- history begins with what each seat has seen, and has of each caller the entries that its seat has.
pub record IsHome {V C R : Type 0} (lawful : History C R → Type 0) (reaches : History C R → V → Type 0)
    (s : TurnState V C R) (held : Standing V C R) : Type 0 where
  pub home : s.homes ≡ some (Some held) ∷ []
  pub is_reached : reaches held.history held.value
  pub right : lawful held.history
  pub counted : slice_index s.words 1 ≡ length held.history
  pub seen : (j : ℕ) (v : View C R) → get_elem? s.views j ≡ some v → IsPrefix v.seen held.history
  pub entries : (j : ℕ) (v : View C R) → get_elem? s.views j ≡ some v → (caller : ℕ) → Owns v caller
      → by caller (v.past ++ v.mine) ≡ entries_by caller held.history
