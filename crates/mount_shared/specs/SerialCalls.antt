-- What calls make of a machine that one thread calls.
use Rattle.std.specs.Prelude.{◌≡◌, ℕ, ◌+◌, ◌++◌, length}
use Rattle.call_history.specs.Entries.{entries_with_places, by}
use Rattle.call_history.specs.Placed.{entries_of}
use Rattle.mount_model.specs.History.{History}
use Rattle.mount_model.specs.Port.{PlacedCalls}

-- a machine, the number of places that were given, and the caller whose port it is, with its calls left
pub record SerialView (M : Type 0) : Type 0 where
  pub machine : M
  pub places : ℕ
  pub caller : ℕ
  pub left : ℕ

abbrev pub serial_view : {M : Type 0} → M → ℕ → ℕ → ℕ → SerialView M
serial_view machine places caller left =
    record { machine = machine; places = places; caller = caller; left = left }

-- the caller has made these calls, whose places count on; and every history that reached the machine
-- reaches it with these entries after it
pub record SerialAfterCalls {M : Type 0} (reaches : History → M → Type 0)
    (old : SerialView M) (calls : PlacedCalls) (new : SerialView M) : Type 0 where
  pub placed : calls ≡ entries_with_places old.places (entries_of calls)
  pub next : new.places ≡ old.places + length calls
  pub own : by old.caller calls ≡ calls
  pub counted : new.left + length calls ≡ old.left
  pub same_caller : new.caller ≡ old.caller
  pub reached_by : (history : History) → reaches history old.machine
      → reaches (history ++ entries_of calls) new.machine
