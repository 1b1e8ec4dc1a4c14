use Rattle.std.proofs.Common.{◌≡◌, ℕ, ◌<◌, None, get_or}
use Rattle.next_calls.specs.Callers.{CallerView}
use Rattle.log_check.proofs.ending.await_nothing.Given as goal

abbrev pub invariant-callers : goal.invariant-callers
invariant-callers l = (k : ℕ) (d : CallerView) → k < l.number → (get_or l.callers k d).waiting ≡ None
