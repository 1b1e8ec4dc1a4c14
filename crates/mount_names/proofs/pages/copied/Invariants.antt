-- The names that were copied already.
use Rattle.std.proofs.Common.{◌≡◌, take}
use Rattle.mount_names.specs.NamePages.{names_of}
use Rattle.mount_names.proofs.pages.copied.Given as goal

abbrev pub invariant-loop-name : goal.invariant-loop-name
invariant-loop-name l = l.list ≡ names_of (take l.name-index l.names)
