-- What is appended, and the parts of the calls that are left, are the parts of all.
use Rattle.std.proofs.Common.{◌≡◌, ◌++◌}
use Rattle.mount_links.specs.ShownParts.{logged_load}
use Rattle.mount_links.specs.Linked as spec
use Rattle.mount_links.proofs.on_both.split.Given as goal

abbrev pub invariant-calls : goal.invariant-calls
invariant-calls l = record {
  own : l.both.own ++ spec.own_parts logged_load l.step-iterator.a.rest.items l.step-iterator.b.rest.items
      ≡ spec.own_parts logged_load l.fn.steps.items l.fn.entries;
  far : l.both.far ++ spec.far_parts l.step-iterator.a.rest.items l.step-iterator.b.rest.items
      ≡ spec.far_parts l.fn.steps.items l.fn.entries;
}
