-- Memory that has a vector for each segment, slice by slice and in a slice lane by lane. These definitions
-- describe the code and not the standard.
use Rattle.std.specs.Prelude.{◌≡◌, ◌≢◌, ℕ, ◌<◌, List, [], length, map, replicate, slice_index_or}
use Rattle.std.specs.declared.vec.Vec.{Vec}
use Rattle.std.specs.declared.alloc.Global.{Global}
use Rattle.argon_kdf.specs.Blocks.{zero_block}
use Rattle.argon_kdf.specs.Shapes.{Shape}

-- the segments of a slice
abbrev pub segments_of : List (Vec (List ℕ) Global) → List (List (List ℕ))
segments_of slice = map (λ segment. segment.items) slice

-- the segments of each slice
abbrev pub slices_of : List (Vec (Vec (List ℕ) Global) Global) → List (List (List (List ℕ)))
slices_of memory = map (λ slice. segments_of slice.items) memory

-- as many blocks in each segment of a slice, all of them zeros
abbrev pub zero_segments : List (List (List ℕ)) → List (List (List ℕ))
zero_segments slice = map (λ segment. replicate (length segment) zero_block) slice

-- the same of each slice
abbrev pub zero_slices : List (List (List (List ℕ))) → List (List (List (List ℕ)))
zero_slices memory = map zero_segments memory

-- a slice has a segment for each lane, of as many blocks as a segment has columns
pub record IsSlice (x : Shape) (slice : List (List (List ℕ))) : Type 0 where
  pub lanes : length slice ≡ x.lanes
  pub widths : (lane : ℕ) → lane < x.lanes → length (slice_index_or slice lane []) ≡ x.width

-- memory has the slice
pub record HasSlice (x : Shape) (memory : List (List (List (List ℕ)))) (n : ℕ) : Type 0 where
  pub within : n < length memory
  pub slice : IsSlice x (slice_index_or memory n [])

-- memory has this many slices
pub record HasSlices (x : Shape) (many : ℕ) (memory : List (List (List (List ℕ)))) : Type 0 where
  pub count : length memory ≡ many
  pub slices : (n : ℕ) → n < many → IsSlice x (slice_index_or memory n [])

-- it has four of them
abbrev pub IsWhole : Shape → List (List (List (List ℕ))) → Type 0
IsWhole x memory = HasSlices x 4 memory

-- it has, except the one that is taken out
pub record IsWholeBut (x : Shape) (slice : ℕ) (memory : List (List (List (List ℕ)))) : Type 0 where
  pub count : length memory ≡ 4
  pub slices : (n : ℕ) → n < 4 → n ≢ slice → IsSlice x (slice_index_or memory n [])
