-- What is left answers as all entries do.
use Rattle.std.proofs.Common.{◌≡◌}
use Rattle.std.specs.Map.{lookup_entry}
use Rattle.mount_state.specs.Resolution.{has_visible_name}
use Rattle.mount_state.proofs.in_dir.long_entry.Given as goal

abbrev pub invariant-each : goal.invariant-each
invariant-each l = lookup_entry (has_visible_name l.shown) l.entry-iterator ≡ lookup_entry (has_visible_name l.shown) l.entries
