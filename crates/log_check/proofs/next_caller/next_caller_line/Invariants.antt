use Rattle.std.proofs.Common.{◌≡◌, ℕ, ◌<◌, Some, None}
use Rattle.std.specs.Prelude.{slice_get}
use Rattle.next_calls.specs.Callers.{CallerView}
use Rattle.log_check.specs.NextLines.{IsAwaited}
use Rattle.log_check.proofs.next_caller.next_caller_line.Given as goal

-- none of those that were passed
abbrev pub invariant-callers : goal.invariant-callers
invariant-callers l =
    (k : ℕ) (caller : CallerView) → k < l.number → slice_get l.callers k ≡ Some caller → IsAwaited caller l.place l.text None
