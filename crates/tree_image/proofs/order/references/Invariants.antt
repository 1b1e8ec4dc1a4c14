-- The entries so far, and those that are left, are all.
use Rattle.std.proofs.Common.{◌≡◌, ◌++◌, map}
use Rattle.tree_image.proofs.order.references.Given as goal

abbrev pub invariant-each : goal.invariant-each
invariant-each l = map (λ e. e.now) l.all.items ++ l.entry-iterator ≡ l.entries
