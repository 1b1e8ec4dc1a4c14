-- A search of the remaining entries gives the result for all entries.
use Rattle.std.proofs.Common.{◌≡◌}
use Rattle.disk_tree.specs.Indexed.{oldest}
use Rattle.disk_tree.proofs.name_index.search_by_name.Given as goal

abbrev pub invariant-each : goal.invariant-each
invariant-each l = oldest l.place-iterator l.name ≡ oldest l.order l.name
