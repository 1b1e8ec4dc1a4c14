-- The blocks of memory that has a vector for each segment, by lane and column, and how a segment in the
-- making sees them. These definitions describe the code and not the standard.
use Rattle.std.specs.Prelude.{ℕ, ◌+◌, ◌*◌, ◌/◌, ◌%◌, ◌<◌, ◌≤◌, ◌⊎◌, ◌==◌}
use Rattle.std.specs.Prelude.{List, [], slice_index_or, if◌then◌else◌}
use Rattle.argon_kdf.specs.declared.layout.Place.{Place}
use Rattle.argon_kdf.specs.Blocks.{zero_block}
use Rattle.argon_kdf.specs.Shapes.{Shape}

-- the block of a lane and a column; zeros if none is made yet
unfoldable pub block_at : Shape → List (List (List (List ℕ))) → ℕ → ℕ → List ℕ
block_at x memory lane column =
    slice_index_or (slice_index_or (slice_index_or memory (column / x.width) []) lane [])
    (column % x.width) zero_block

-- the block of a lane and a column, as the segment of a place sees it in the making: in the place's slice
-- its own block, and elsewhere what memory has
unfoldable pub seen_block : Shape → List (List (List (List ℕ))) → List (List ℕ) → Place → ℕ → ℕ → List ℕ
seen_block x memory segment at lane column =
    if column / x.width == at.slice then slice_index_or segment (column % x.width) zero_block
    else block_at x memory lane column

-- a column that is not one of the slice's
abbrev pub IsOutside : Shape → ℕ → ℕ → Type 0
IsOutside x slice column = (column < slice * x.width) ⊎ (slice * x.width + x.width ≤ column)
