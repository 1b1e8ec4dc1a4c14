-- What each atomic step returns to the seat that makes it, and what a split and a join make of views.
use Rattle.std.specs.Prelude.{◌≡◌, ◌≢◌, ℕ, ◌+◌, ◌-◌, ◌≤◌, true, false, [], ◌∷◌}
use Rattle.std.specs.Prelude.{◌++◌, length, if◌then◌else◌, nat_le, Option, Some}
use Rattle.atomic_table.specs.Table.{Me}
use Rattle.call_history.specs.declared.TheConstants.{MAX_PLACES}
use Rattle.call_history.specs.Entries.{History, entries_with_places, by, entries_by}
use Rattle.call_history.specs.Prefix.{IsPrefix}
use Rattle.turn_lock.specs.declared.view.View.{View}
use Rattle.turn_lock.specs.Standing.{Standing}
use Rattle.turn_lock.specs.PassParts.{under, over, longer}

-- what a seat knows, and the slots that it holds
abbrev pub Seated : Type 0 → Type 0 → Type 0 → Type 0
Seated V C R = Me (Option (Standing V C R)) (View C R)

module _ {C R : Type 0} where
  -- a seat took the turn, with the value and its history
  abbrev pub HasTaken : {V : Type 0} → Seated V C R → Seated V C R → Type 0
  HasTaken {V} m m' =
      (held : Standing V C R) × IsPrefix m.0.seen held.history
      × (m' ≡ (record m.0 { turn = true; seen = held.history }, (0, Some held) ∷ []))

  -- the turn is taken, or it was not free
  abbrev pub try_step : {V : Type 0} → Seated V C R → ℕ → Seated V C R → Type 0
  try_step m found m' = (found ≡ 0 → HasTaken m m') × (found ≢ 0 → m' ≡ m)

  abbrev pub counted_view : View C R → History C R → View C R
  counted_view v said = record v {
    left = v.left - 1;
    seen = v.seen ++ said;
    mine = v.mine ++ entries_with_places (length v.seen) said;
  }

  -- the entry is counted: its place is the number of entries before it, and the caller's entries are
  -- those in its past and its own
  abbrev pub counted : {V : Type 0} → History C R → Seated V C R → ℕ → Seated V C R → Type 0
  counted said m found m' =
      (found ≡ length m.0.seen) × (m' ≡ (counted_view m.0 said, m.1))
      × (by m'.0.who (m'.0.past ++ m'.0.mine) ≡ entries_by m'.0.who m'.0.seen)

  -- the value goes home and the turn is free
  abbrev pub release_step : {V : Type 0} → Seated V C R → ℕ → Seated V C R → Type 0
  release_step m stored m' = m' ≡ (record m.0 { turn = false }, [])

  abbrev pub lower_view : ℕ → ℕ → View C R → View C R
  lower_view at give v = record v { high = at; left = v.left - give; past = under at v.past }

  abbrev pub upper_view : ℕ → ℕ → View C R → View C R
  upper_view at give v = record v { who = at; left = give; mine = []; past = over at v.past }

  abbrev pub shorter : History C R → History C R → History C R
  shorter g h = if nat_le (length g) (length h) then g else h

  abbrev pub joined_view : View C R → View C R → View C R
  joined_view v w = record v {
    high = w.high;
    left = v.left + w.left;
    seen = longer v.seen w.seen;
    told = shorter v.seen w.seen;
    past = v.past ++ (w.past ++ w.mine);
  }

  -- nothing changes; of two views that were joined, the shorter list begins the longer, and the calls fit
  abbrev pub look_step : {V : Type 0} → Seated V C R → ℕ → Seated V C R → Type 0
  look_step m found m' = (m' ≡ m) × IsPrefix m.0.told m.0.seen × (m.0.left + length m.0.mine ≤ MAX_PLACES)
