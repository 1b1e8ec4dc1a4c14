-- The names that were taken already, with those that the other lengths make of the bytes after them, are
-- all.
use Rattle.std.proofs.Common.{◌≡◌, ◌++◌, length, drop}
use Rattle.std.specs.List.{sum}
use Rattle.mount_names.specs.NamePages.{names_of}
use Rattle.mount_names.specs.PackedNames.{parts_of}
use Rattle.mount_names.proofs.packed_names.PackedNames.references.Given as goal

abbrev pub invariant-each : goal.invariant-each
invariant-each l =
    (names_of l.names.items ++ parts_of (drop l.len-index l.len-items) l.rest ≡ parts_of l.len-items l.initial.rest)
    × (sum (drop l.len-index l.len-items) ≡ length l.rest)
