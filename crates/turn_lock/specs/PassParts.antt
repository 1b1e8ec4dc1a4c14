-- What becomes of what a pass knows at a split and a join.
use Rattle.std.specs.Prelude.{ℕ, ◌+◌, ◌-◌, [], ◌++◌, length, filter, if◌then◌else◌, nat_lt, nat_le}
use Rattle.call_history.specs.Entries.{History, PlacedList}
use Rattle.turn_lock.specs.Passes.{PassView}

module _ {C R : Type 0} where
  -- the entries of callers below a number, and of the others
  abbrev pub under : ℕ → PlacedList C R → PlacedList C R
  under at placed = filter (λ x. nat_lt x.1.who at) placed

  abbrev pub over : ℕ → PlacedList C R → PlacedList C R
  over at placed = filter (λ x. nat_le at x.1.who) placed

  -- what a pass retains when it is split at a number, and what the new pass gets
  abbrev pub lower_part : ℕ → ℕ → PassView C R → PassView C R
  lower_part at give pass = record pass { high = at; left = pass.left - give; past = under at pass.past }

  abbrev pub upper_part : ℕ → ℕ → PassView C R → PassView C R
  upper_part at give pass = record pass { who = at; left = give; mine = []; past = over at pass.past }

  abbrev pub longer : History C R → History C R → History C R
  longer g h = if nat_le (length g) (length h) then h else g

  -- a pass that took in another: its entries are now past
  abbrev pub with_other : PassView C R → PassView C R → PassView C R
  with_other pass other = record pass {
    high = other.high;
    left = pass.left + other.left;
    seen = longer pass.seen other.seen;
    past = pass.past ++ (other.past ++ other.mine);
  }
