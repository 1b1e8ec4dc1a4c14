-- Each block as a function of pass, lane and column, and which of them the memory has while it is filled.
use Rattle.std.specs.Prelude.{ℕ, ◌+◌, ◌-◌, ◌*◌, ◌==◌, nat_lt, List, if◌then◌else◌}
use Rattle.argon_kdf.specs.declared.layout.Place.{Place}
use Rattle.argon_kdf.specs.Blocks.{zero_block}
use Rattle.argon_kdf.specs.Shapes.{Shape, column_of}

-- by pass, lane and column; no block in it is ever replaced
abbrev pub Table : Type 0
Table = ℕ → ℕ → ℕ → List ℕ

-- the table before the first block is made
abbrev pub empty_table : Table
empty_table pass lane column = zero_block

-- the table with a block put into it
unfoldable pub put : Table → ℕ → ℕ → ℕ → List ℕ → Table
put table pass lane column block p l c =
    if p == pass
    then if l == lane then if c == column then block else table p l c else table p l c
    else table p l c

-- how many columns of a lane are made in this pass when it has come to a place: slice by slice, in a slice
-- lane by lane, in a lane column by column
unfoldable pub columns_made : Shape → Place → ℕ → ℕ
columns_made x at lane =
    if nat_lt lane at.lane then at.slice * x.width + x.width
    else if lane == at.lane then column_of x at
    else at.slice * x.width

-- the latest block of a lane and a column when the filling has come to a place: of this pass if it is made,
-- else of the pass before
unfoldable pub latest : Shape → Table → Place → ℕ → ℕ → List ℕ
latest x table at lane column =
    if nat_lt column (columns_made x at lane) then table at.pass lane column
    else table (at.pass - 1) lane column
