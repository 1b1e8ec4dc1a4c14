use Rattle.std.proofs.Common.{◌≡◌}
use Rattle.script_runs.specs.Callers.{noted_by, logged_calls_of}
use Rattle.script_runs.proofs.rotation.output_of_runners.Given as goal

abbrev pub invariant-runners : goal.invariant-runners
invariant-runners l = record {
  entries : l.told.entries.items ≡ logged_calls_of (λ runner. runner.entries) l.yielded;
  notes : l.told.notes.items ≡ noted_by l.yielded;
}
