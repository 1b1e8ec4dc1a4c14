-- The parts before the index are copied.
use Rattle.std.proofs.Common.{◌≡◌, take}
use Rattle.mount_model.proofs.path.Path.copy.Given as goal

abbrev pub invariant-parts : goal.invariant-parts
invariant-parts l = l.copy ≡ take l.part-index l.self
