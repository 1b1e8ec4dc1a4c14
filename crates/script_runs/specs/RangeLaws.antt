-- Calls in range after calls in range are in range, and so is an empty list: the laws of a port over
-- another.
use Rattle.std.proofs.Common.{◌≡◌, ℕ, [], ◌++◌, sym, subst}
use Rattle.std.specs.Prelude.{All}
use Rattle.std.proofs.lemmas.List.{map-append}
use Rattle.std.proofs.lemmas.List.Elements.{All-nil, All-append}
use Rattle.call_history.specs.Placed.{entries_of}
use Rattle.mount_model.specs.History.{History, MountEntry}
use Rattle.mount_model.specs.Port.{PlacedCalls}
use Rattle.reply_text.specs.Ranges.{EntryIsInRange}
use Rattle.script_runs.specs.InRange.{AreInRange, RangedAfterCalls}

-- those of both
pub are_in_range-append : (e f : PlacedCalls) → AreInRange e → AreInRange f → AreInRange (e ++ f)
are_in_range-append e f p q =
    subst (λ (es : History). All EntryIsInRange es) (sym (map-append (λ (x : ℕ × MountEntry). x.1) e f))
    (All-append EntryIsInRange (entries_of e) (entries_of f) p q)

module _ {P : Type 0} where
  pub RangedAfterCalls-none
      : (after_calls : P → PlacedCalls → P → Type 0) (none : (port : P) → after_calls port [] port)
      (port : P)
      → RangedAfterCalls after_calls port [] port
  RangedAfterCalls-none after_calls none port
      = record { reached_by_call = none port; ranged = All-nil EntryIsInRange }

  pub RangedAfterCalls-on : (after_calls : P → PlacedCalls → P → Type 0)
      (more : (first second third : P) (e f : PlacedCalls) → after_calls first e second
      → after_calls second f third
      → after_calls first (e ++ f) third)
      (first second third : P) (e f : PlacedCalls)
      → RangedAfterCalls after_calls first e second → RangedAfterCalls after_calls second f third
      → RangedAfterCalls after_calls first (e ++ f) third
  RangedAfterCalls-on after_calls more first second third e f p q = record {
    reached_by_call = more first second third e f p.reached_by_call q.reached_by_call;
    ranged = are_in_range-append e f p.ranged q.ranged;
  }

  pub RangedAfterCalls-caller : (who : P → ℕ) (after_calls : P → PlacedCalls → P → Type 0)
      (one : (first second : P) (e : PlacedCalls) → after_calls first e second → who second ≡ who first)
      (first second : P) (e : PlacedCalls) → RangedAfterCalls after_calls first e second
      → who second ≡ who first
  RangedAfterCalls-caller who after_calls one first second e p = one first second e p.reached_by_call
