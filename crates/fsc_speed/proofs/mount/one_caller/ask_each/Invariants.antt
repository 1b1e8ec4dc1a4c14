use Rattle.std.proofs.Common.{◌≡◌}
use Rattle.fsc_speed.proofs.mount.one_caller.ask_each.Given as goal

abbrev pub invariant-loop-call : goal.invariant-loop-call
invariant-loop-call g l = l.pass.table ≡ l.initial.pass.table
