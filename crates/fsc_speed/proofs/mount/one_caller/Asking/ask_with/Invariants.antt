use Rattle.std.proofs.Common.{◌≡◌}
use Rattle.fsc_speed.proofs.mount.one_caller.Asking.ask_with.Given as goal

abbrev pub invariant-loop : goal.invariant-loop
invariant-loop g l = (l.pass.table ≡ l.initial.pass.table) × (l.pass.who ≡ l.initial.pass.who) × (l.pass.high ≡ l.initial.pass.high)
