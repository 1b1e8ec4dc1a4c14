use Rattle.std.proofs.Common.{ℕ, ◌<◌, None}
use Rattle.log_check.specs.ExpectedCallers.{IsCallAt}
use Rattle.log_check.proofs.expected.waiting_caller.Given as goal

-- none of those that were passed waits
abbrev pub invariant-callers : goal.invariant-callers
invariant-callers l = (k : ℕ) → k < l.number → IsCallAt l.callers k None
