use Rattle.argon_kdf.specs.Shapes.{place, shape}
use Rattle.argon_kdf.specs.Filling.{with_passes}
use Rattle.argon_kdf.specs.Memory.{IsFilledTo}
use Rattle.argon_kdf.proofs.fill.fill.Given as goal

abbrev pub invariant-passes : goal.invariant-passes
invariant-passes l =
    IsFilledTo (shape l.layout) l.memory (with_passes (shape l.layout) l.h0 l.pass) (place l.pass 0 0 0)
