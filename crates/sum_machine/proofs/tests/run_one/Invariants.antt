use Rattle.std.proofs.Common.{◌≡◌}
use Rattle.sum_machine.proofs.tests.run_one.Given as goal

abbrev pub invariant-loop-n : goal.invariant-loop-n
invariant-loop-n g l =
    (l.pass.table ≡ l.initial.pass.table) × (l.pass.who ≡ l.initial.pass.who)
    × (l.pass.high ≡ l.initial.pass.high)
