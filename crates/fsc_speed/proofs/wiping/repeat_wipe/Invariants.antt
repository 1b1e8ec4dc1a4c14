-- A copy that was wiped is zeros, as it was before.
use Rattle.std.proofs.Common.{◌≡◌}
use Rattle.fsc_speed.proofs.wiping.repeat_wipe.Given as goal

abbrev pub invariant-loop : goal.invariant-loop
invariant-loop l = l.copy ≡ l.fn.copy
