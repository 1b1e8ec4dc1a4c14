-- The mount between two turns: its state is that after all entries so far, whose places count from 0.
use Rattle.std.specs.Prelude.{◌≡◌, ℕ, ◌+◌, ◌++◌, length}
use Rattle.call_history.specs.Entries.{by, entries_with_places}
use Rattle.call_history.specs.Placed.{entries_of}
use Rattle.mount_model.specs.History.{History}
use Rattle.mount_model.specs.Port.{PlacedCalls}

-- a machine, and the number of places that were given
pub record At (M : Type 0) : Type 0 where
  pub machine : M
  pub places : ℕ

abbrev pub at : {M : Type 0} → M → ℕ → At M
at machine places = record { machine = machine; places = places }

-- the mount is in the state after all of its entries so far, whose places count from 0, and has given as
-- many places
pub record Stands {M : Type 0} (reaches : History → M → Type 0) (told : PlacedCalls) (mount : At M)
    : Type 0 where
  pub placed : told ≡ entries_with_places 0 (entries_of told)
  pub given : mount.places ≡ length told
  pub reached_by : reaches (entries_of told) mount.machine

-- these calls of a caller went to the mount, and their places count on
pub record Goes {M : Type 0} (reaches : History → M → Type 0) (caller : ℕ) (old : At M)
    (made : PlacedCalls) (new : At M) : Type 0 where
  pub placed : made ≡ entries_with_places old.places (entries_of made)
  pub given : new.places ≡ old.places + length made
  pub own : by caller made ≡ made
  pub reached_by : (history : History) → reaches history old.machine
      → reaches (history ++ entries_of made) new.machine
