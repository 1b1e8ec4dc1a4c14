-- How memory and a segment in the making represent a table. These definitions describe the code and not the
-- standard.
use Rattle.std.specs.Prelude.{◌≡◌, ◌≢◌, ℕ, ◌<◌, ◌⊎◌, List, [], length, All, vec_capacity}
use Rattle.std.specs.declared.vec.Vec.{Vec}
use Rattle.std.specs.declared.alloc.Global.{Global}
use Rattle.argon_kdf.specs.declared.layout.Place.{Place}
use Rattle.argon_kdf.specs.Shapes.{Shape, columns}
use Rattle.argon_kdf.specs.Slices.{HasSlice}
use Rattle.argon_kdf.specs.SeenBlocks.{IsOutside, seen_block}
use Rattle.argon_kdf.specs.Tables.{Table, latest}

-- capacity for a slice: for each lane a vector that has no block yet and holds as many as a segment
pub record HasSegmentSpace (x : Shape) (segments : List (Vec (List ℕ) Global)) : Type 0 where
  pub lanes : length segments ≡ x.lanes
  pub empty : All (λ v. v.items ≡ []) segments
  pub room : All (λ v. vec_capacity v ≡ x.width) segments

-- what the segment of a place may read is there: each other slice and all that the segment had, or in the
-- first pass only the slices before and the blocks made so far
pub record IsReadable (x : Shape) (memory : List (List (List (List ℕ)))) (segment : List (List ℕ))
    (at : Place) : Type 0 where
  pub others : (n : ℕ) → n < 4 → n ≢ at.slice → (at.pass ≡ 0 → n < at.slice) → HasSlice x memory n
  pub own : (k : ℕ) → k < x.width → (at.pass ≡ 0 → k < at.index) → k < length segment

-- in its own lane, and in each column that is not one of the slice's, the segment sees the latest block
pub record BeginsSegment (x : Shape) (memory : List (List (List (List ℕ)))) (segment : List (List ℕ))
    (table : Table) (at : Place) : Type 0 where
  pub shows : (lane column : ℕ) → lane < x.lanes → column < columns x
      → (lane ≡ at.lane) ⊎ IsOutside x at.slice column
      → seen_block x memory segment at lane column ≡ latest x table at lane column
