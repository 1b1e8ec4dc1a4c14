-- Which block a new block refers to, besides the one before it (RFC 9106, 3.4).
use Rattle.std.specs.Prelude.{ℕ, ◌+◌, ◌-◌, ◌*◌, ◌/◌, ◌%◌, ◌^◌, ◌==◌, nat_lt, List}
use Rattle.std.specs.Prelude.{[], ◌∷◌, ◌++◌, slice_index, replicate, if◌then◌else◌}
use Rattle.argon_kdf.specs.declared.layout.Place.{Place}
use Rattle.argon_kdf.specs.Blocks.{zero_block, joined}
use Rattle.argon_kdf.specs.Shapes.{Shape, columns, block_count}

-- the input of an address block: pass, lane, slice, blocks, passes, the type 2, and a counter (3.4.1.2)
unfoldable pub address_input : Shape → Place → ℕ → List ℕ
address_input x at counter =
    (at.pass ∷ at.lane ∷ at.slice ∷ block_count x ∷ x.passes ∷ 2 ∷ counter ∷ []) ++ replicate 121 0

-- the address block with this counter
unfoldable pub address_block : Shape → Place → ℕ → List ℕ
address_block x at counter = joined zero_block (joined zero_block (address_input x at counter))

-- J_2 and J_1 as one word: from an address block in the first half of the first pass, otherwise from the
-- block before (3.4.1.3)
unfoldable pub reference_word : Shape → Place → List ℕ → ℕ
reference_word x at previous =
    if at.pass == 0 then
    if nat_lt at.slice 2 then slice_index (address_block x at (at.index / 128 + 1)) (at.index % 128)
    else slice_index previous 0
    else slice_index previous 0

-- the lane: the place's own at the very start, else by J_2 (3.4.2)
unfoldable pub reference_lane : Shape → Place → ℕ → ℕ
reference_lane x at j2 =
    if at.pass == 0 then if at.slice == 0 then at.lane else j2 % x.lanes else j2 % x.lanes

-- how many blocks of a lane are in finished segments of the last three slices or, in the first pass, of the
-- slices so far
unfoldable pub finished : Shape → Place → ℕ
finished x at = if at.pass == 0 then at.slice * x.width else columns x - x.width

-- how many blocks there are to choose from in a lane: in the place's own lane those of its segment too,
-- except the block before; at the start of a segment one less of the others (3.4.2)
unfoldable pub choices : Shape → Place → ℕ → ℕ
choices x at lane =
    if lane == at.lane then finished x at + at.index - 1
    else if at.index == 0 then finished x at - 1
    else finished x at

-- which of them, counted from the oldest, by J_1: the newer, the likelier (3.4.2)
abbrev pub choice : ℕ → ℕ → ℕ
choice count j1 = count - 1 - count * (j1 * j1 / 2 ^ 32) / 2 ^ 32

-- the column of the oldest: the first of the next segment, or of the lane
unfoldable pub oldest : Shape → Place → ℕ
oldest x at = if at.pass == 0 then 0 else if at.slice == 3 then 0 else (at.slice + 1) * x.width

-- the column that is referred to
unfoldable pub reference_column : Shape → Place → ℕ → ℕ → ℕ
reference_column x at lane j1 = (oldest x at + choice (choices x at lane) j1) % columns x
