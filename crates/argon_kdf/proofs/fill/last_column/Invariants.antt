use Rattle.std.proofs.Common.{◌≡◌, ◌-◌}
use Rattle.argon_kdf.specs.Shapes.{columns, place, shape}
use Rattle.argon_kdf.specs.Tables.{Table}
use Rattle.argon_kdf.specs.Argon2id.{lanes_xored}
use Rattle.argon_kdf.specs.Memory.{IsFilledTo}
use Rattle.argon_kdf.proofs.fill.last_column.Given as goal

abbrev pub invariant-lanes : goal.invariant-lanes
invariant-lanes l = (table : Table) → IsFilledTo (shape l.layout) l.memory table (place l.layout.passes 0 0 0)
    → l.sum ≡ lanes_xored (table (l.layout.passes - 1)) (columns (shape l.layout) - 1) l.lane
