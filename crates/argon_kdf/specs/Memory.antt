-- How the memory of the program represents a table.
use Rattle.std.specs.Prelude.{◌≡◌, ℕ, ◌+◌, ◌*◌, ◌<◌, List, [], length, slice_index_or}
use Rattle.argon_kdf.specs.declared.layout.Place.{Place}
use Rattle.argon_kdf.specs.Shapes.{Shape, columns, block_count}
use Rattle.argon_kdf.specs.Tables.{Table, latest}

-- when the filling has come to a place, `now` has the latest block at each lane and column
pub record Shows (x : Shape) (now : ℕ → ℕ → List ℕ) (table : Table) (at : Place) : Type 0 where
  pub shows : (lane column : ℕ) → lane < x.lanes → column < columns x
      → now lane column ≡ latest x table at lane column

-- the memory has the lanes one after the other, and in each column the latest block when the filling has
-- come to a place
pub record IsFilledTo (x : Shape) (memory : List (List ℕ)) (table : Table) (at : Place) : Type 0 where
  pub whole : length memory ≡ block_count x
  pub shows : (lane column : ℕ) → lane < x.lanes → column < columns x
      → slice_index_or memory (lane * columns x + column) [] ≡ latest x table at lane column
