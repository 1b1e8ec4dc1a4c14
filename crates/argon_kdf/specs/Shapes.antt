-- The memory of Argon2 in lanes, slices and segments (RFC 9106, 3.2 and 3.4).
use Rattle.std.specs.Prelude.{ℕ, ◌+◌, ◌-◌, ◌*◌, ◌/◌, ◌<◌, ◌==◌, if◌then◌else◌}
use Rattle.argon_kdf.specs.declared.costs.Costs.{Costs}
use Rattle.argon_kdf.specs.declared.layout.Layout.{Layout}
use Rattle.argon_kdf.specs.declared.layout.Place.{Place}

-- the number of passes over the memory, of lanes, and of columns of a segment
pub record Shape : Type 0 where
  pub passes : ℕ
  pub lanes : ℕ
  pub width : ℕ

-- a lane has four segments, one for each slice
abbrev pub columns : Shape → ℕ
columns x = 4 * x.width

-- the number of blocks, m'
abbrev pub block_count : Shape → ℕ
block_count x = x.lanes * columns x

-- as many blocks as the costs allow, in segments of one width
abbrev pub shape_of_costs : Costs → Shape
shape_of_costs costs =
    record { passes = costs.passes; lanes = costs.lanes; width = costs.kib / (4 * costs.lanes) }

-- the shape of a layout of the program
abbrev pub shape : Layout → Shape
shape layout = record { passes = layout.passes; lanes = layout.lanes; width = layout.width }

-- the place with this index in the segment of a pass, a slice and a lane
abbrev pub place : ℕ → ℕ → ℕ → ℕ → Place
place pass slice lane index = record { pass = pass; slice = slice; lane = lane; index = index }

-- the column of a place
abbrev pub column_of : Shape → Place → ℕ
column_of x at = at.slice * x.width + at.index

-- the column before it; before the first column comes the last
abbrev pub column_before : Shape → Place → ℕ
column_before x at = if column_of x at == 0 then columns x - 1 else column_of x at - 1

-- the place is one of the shape's
pub record IsWithin (x : Shape) (at : Place) : Type 0 where
  pub slice : at.slice < 4
  pub lane : at.lane < x.lanes
  pub index : at.index < x.width
