use Rattle.std.proofs.Common.{◌≡◌}
use Rattle.script_runs.specs.Callers.{noted_by, logged_calls_of}
use Rattle.linked_turns.specs.Callers.{even_logged_calls, odd_logged_calls, runners_of}
use Rattle.linked_turns.proofs.output.output_of_runners.Given as goal

abbrev pub invariant-runners : goal.invariant-runners
invariant-runners l = record {
  even : l.told.even.items ≡ logged_calls_of even_logged_calls l.yielded;
  odd : l.told.odd.items ≡ logged_calls_of odd_logged_calls l.yielded;
  notes : l.told.notes.items ≡ noted_by (runners_of l.yielded);
}
