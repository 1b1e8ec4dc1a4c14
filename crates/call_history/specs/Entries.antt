-- Histories of calls, and lists of entries with their places, which count from 0.
use Rattle.std.specs.Prelude.{◌≡◌, ℕ, ◌+◌, List, [], ◌∷◌, map, filter, if◌then◌else◌, nat_le, ◌==◌}
use Rattle.call_history.specs.declared.entry.Entry.{Entry}

-- the calls in the order in which they were answered
abbrev pub History : Type 0 → Type 0 → Type 0
History C R = List (Entry C R)

-- entries with their places, in any order
abbrev pub PlacedList : Type 0 → Type 0 → Type 0
PlacedList C R = List (ℕ × Entry C R)

module _ {C R : Type 0} where
  abbrev pub entry : ℕ → C → R → Entry C R
  entry who call reply = record { who = who; call = call; reply = reply }

  -- each entry with its place, if the first has the place k
  abbrev pub entries_with_places : ℕ → History C R → PlacedList C R
  entries_with_places k [] = []
  entries_with_places k (e ∷ es) = (k, e) ∷ entries_with_places (k + 1) es

  -- those that this caller made
  abbrev pub by : ℕ → PlacedList C R → PlacedList C R
  by caller placed = filter (λ x. x.1.who == caller) placed

  -- a caller's entries in a history, with their places
  abbrev pub entries_by : ℕ → History C R → PlacedList C R
  entries_by caller history = by caller (entries_with_places 0 history)

  -- x before the first of a list in order that has no lower place
  abbrev pub insert_in_order : ℕ × Entry C R → PlacedList C R → PlacedList C R
  insert_in_order x [] = x ∷ []
  insert_in_order x (y ∷ ys) = if nat_le x.0 y.0 then x ∷ y ∷ ys else y ∷ insert_in_order x ys

  -- the same entries in order of place, those of one place in the order that they had
  abbrev pub in_order : PlacedList C R → PlacedList C R
  in_order [] = []
  in_order (x ∷ xs) = insert_in_order x (in_order xs)

  -- the history that the entries make in order of place
  abbrev pub history_in_order : PlacedList C R → History C R
  history_in_order placed = map (λ x. x.1) (in_order placed)

  -- the places of these entries are 0 to n - 1, each once
  abbrev pub IsComplete : PlacedList C R → Type 0
  IsComplete placed = in_order placed ≡ entries_with_places 0 (history_in_order placed)
