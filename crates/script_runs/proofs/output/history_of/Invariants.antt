use Rattle.std.proofs.Common.{◌≡◌}
use Rattle.call_history.specs.Placed.{entries_of}
use Rattle.script_runs.proofs.output.history_of.Given as goal

abbrev pub invariant-entries : goal.invariant-entries
invariant-entries l = l.history.items ≡ entries_of l.yielded
