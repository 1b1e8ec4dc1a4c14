use Rattle.std.proofs.Common.{◌≡◌, ◌++◌, drop}
use Rattle.script_runs.specs.Callers.{fresh_runners}
use Rattle.script_runs.proofs.rotation.fresh_runners.Given as goal

abbrev pub invariant-sections : goal.invariant-sections
invariant-sections l = l.runners.items ++ fresh_runners l.caller (drop l.caller l.sections) ≡ fresh_runners 0 l.sections
