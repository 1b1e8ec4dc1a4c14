use Rattle.std.proofs.Common.{◌≡◌, ◌-◌, ◌^◌, min, take}
use Rattle.script_runs.specs.Passes.{max_calls_of_sections}
use Rattle.script_runs.proofs.passes.max_calls_of_sections.Given as goal

abbrev pub invariant-sections : goal.invariant-sections
invariant-sections l = l.calls ≡ min (max_calls_of_sections l.most (take l.section-index l.sections)) (2 ^ 64 - 1)
