use Rattle.std.proofs.Common.{◌≡◌, ◌++◌, drop, map}
use Rattle.linked_turns.specs.Callers.{fresh_views, view_of}
use Rattle.linked_turns.proofs.runners.fresh_runners.Given as goal

abbrev pub invariant-sections : goal.invariant-sections
invariant-sections l = map view_of l.runners.items ++ fresh_views l.caller (drop l.caller l.sections) ≡ fresh_views 0 l.sections
