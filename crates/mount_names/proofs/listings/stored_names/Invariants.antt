-- The names that were taken already, with those of the entries that are left, are those of all.
use Rattle.std.proofs.Common.{◌≡◌, map, ◌++◌}
use Rattle.mount_names.specs.NamePages.{names_of}
use Rattle.mount_names.proofs.listings.stored_names.Given as goal

abbrev pub invariant-each : goal.invariant-each
invariant-each l = names_of l.names.items ++ map (λ e. e.0) l.entry-iterator ≡ map (λ e. e.0) l.entries
