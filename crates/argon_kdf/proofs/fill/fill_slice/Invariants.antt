use Rattle.argon_kdf.specs.Shapes.{place, shape}
use Rattle.argon_kdf.specs.Tables.{Table}
use Rattle.argon_kdf.specs.Filling.{with_lanes}
use Rattle.argon_kdf.specs.Memory.{IsFilledTo}
use Rattle.argon_kdf.proofs.fill.fill_slice.Given as goal

abbrev pub invariant-lanes : goal.invariant-lanes
invariant-lanes l = (table : Table) → IsFilledTo (shape l.layout) l.fn.memory table (place l.pass l.slice 0 0)
    → IsFilledTo (shape l.layout) l.memory (with_lanes (shape l.layout) l.h0 table l.pass l.slice l.lane)
    (place l.pass l.slice l.lane 0)
