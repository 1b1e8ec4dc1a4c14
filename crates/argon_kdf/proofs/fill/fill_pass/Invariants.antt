use Rattle.argon_kdf.specs.Shapes.{place, shape}
use Rattle.argon_kdf.specs.Tables.{Table}
use Rattle.argon_kdf.specs.Filling.{with_slices}
use Rattle.argon_kdf.specs.Memory.{IsFilledTo}
use Rattle.argon_kdf.proofs.fill.fill_pass.Given as goal

abbrev pub invariant-slices : goal.invariant-slices
invariant-slices l = (table : Table) → IsFilledTo (shape l.layout) l.fn.memory table (place l.pass 0 0 0)
    → IsFilledTo (shape l.layout) l.memory (with_slices (shape l.layout) l.h0 table l.pass l.slice)
    (place l.pass l.slice 0 0)
