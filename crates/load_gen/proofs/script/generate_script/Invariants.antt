use Rattle.std.proofs.Common.{◌≡◌, ◌-◌, ◌++◌}
use Rattle.load_gen.specs.Generated.{sections}
use Rattle.load_gen.proofs.script.generate_script.Given as goal

abbrev pub invariant-callers : goal.invariant-callers
invariant-callers l = l.script ++ sections (8 - l.caller) l.caller l.numbers.last ≡ sections 8 0 l.fn.number
