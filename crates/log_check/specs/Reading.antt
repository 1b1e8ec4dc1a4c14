-- Callers that took the entries of a text, up to a place.
use Rattle.std.specs.Prelude.{◌≡◌, ℕ, List, length, slice_get, Some}
use Rattle.mount_model.specs.History.{History, entries_by}
use Rattle.script_lang.specs.declared.commands.Section.{Section}
use Rattle.next_calls.specs.Callers.{CallerView}
use Rattle.next_calls.specs.EntriesSoFar.{Awaits}

-- the caller is the script's, and awaits what comes after its entries in the history
pub record IsCaller (seed : List ℕ) (script : List Section) (history : History) (number : ℕ)
    (caller : CallerView) : Type 0 where
  pub numbered : caller.caller ≡ number
  pub section : slice_get script number ≡ Some caller.section
  pub awaits : Awaits seed caller (entries_by number history)

-- the callers are those of the script, and each awaits what comes after its entries in the history
pub record AreCallers (seed : List ℕ) (script : List Section) (history : History) (callers : List CallerView)
    : Type 0 where
  pub many : length callers ≡ length script
  pub each : (number : ℕ) (caller : CallerView) → slice_get callers number ≡ Some caller
      → IsCaller seed script history number caller

-- so they do, and the history may reach the mount
pub record CallersFollow {M : Type 0} (reached_by : History → M → Type 0) (seed : List ℕ)
    (script : List Section)
    (history : History) (callers : List CallerView) (mount : M) : Type 0 where
  pub reached_of_reply : reached_by history mount
  pub own : AreCallers seed script history callers
