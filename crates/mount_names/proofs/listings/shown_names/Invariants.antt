-- The names that are done already, with the visible names of the entries that are left, are all visible
-- names.
use Rattle.std.proofs.Common.{List}
use Rattle.std.specs.List.{AllZip}
use Rattle.plain_tree.specs.Nodes.{Name}
use Rattle.mount_names.specs.VisibleNames.{ShowsAs}
use Rattle.mount_names.proofs.ListedLemmas.{StillShown}
use Rattle.mount_names.proofs.listings.shown_names.Given as goal

abbrev pub invariant-each : goal.invariant-each
invariant-each l =
    (all : List Name) → AllZip (λ e. ShowsAs l.reading e.0) l.entries all → StillShown l.reading l.entry-iterator l.shown all
