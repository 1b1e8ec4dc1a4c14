use Rattle.std.proofs.Common.{◌≡◌, ◌+◌, ◌++◌, length}
use Rattle.load_gen.specs.Callers as spec
use Rattle.load_gen.proofs.callers.in_lines.Given as goal

abbrev pub invariant-verbs : goal.invariant-verbs
invariant-verbs l = record {
  commands : l.commands ++ spec.in_lines l.line l.verb-iterator.rest.items ≡ spec.in_lines l.fn.first l.fn.verbs.items;
  line : l.line + length l.verb-iterator.rest.items ≡ l.fn.first + length l.fn.verbs.items;
}
