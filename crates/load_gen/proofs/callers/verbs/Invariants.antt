use Rattle.std.proofs.Common.{◌≡◌, ◌-◌, ◌++◌}
use Rattle.load_gen.specs.Numbers.{number_after}
use Rattle.load_gen.specs.Callers.{first_verbs, operations}
use Rattle.load_gen.proofs.callers.verbs.Given as goal

abbrev pub invariant-drawn : goal.invariant-drawn
invariant-drawn l = record {
  made : l.verbs.items ++ operations (200 - l.counter) l.caller l.numbers.last ≡ first_verbs l.caller ++ operations 200 l.caller l.fn.numbers.last;
  last : number_after (200 - l.counter) l.numbers.last ≡ number_after 200 l.fn.numbers.last;
}
