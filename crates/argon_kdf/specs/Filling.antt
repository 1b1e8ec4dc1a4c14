-- The blocks in the order in which Argon2 makes them (RFC 9106, 3.2, steps 3 to 6).
use Rattle.std.specs.Prelude.{ℕ, zero, suc, ◌/◌, ◌%◌, ◌^◌, ◌==◌, nat_lt, List, ◌++◌, if◌then◌else◌}
use Rattle.argon_kdf.specs.declared.layout.Place.{Place}
use Rattle.argon_kdf.specs.Blocks.{block_of, joined, xored}
use Rattle.byte_words.specs.Numbers.{little_endian_bytes}
use Rattle.argon_kdf.specs.LongDigest.{long_digest}
use Rattle.argon_kdf.specs.Shapes.{Shape, place, column_of, column_before}
use Rattle.argon_kdf.specs.References.{reference_word, reference_lane, reference_column}
use Rattle.argon_kdf.specs.Tables.{Table, empty_table, put, latest}

-- the first two blocks of a lane, from the digest H_0 (steps 3 and 4)
unfoldable pub first_block : List ℕ → ℕ → ℕ → List ℕ
first_block h0 lane column =
    block_of (long_digest 1024 ((h0 ++ little_endian_bytes 4 column) ++ little_endian_bytes 4 lane))

-- G of the block before a place and the block that it refers to, among the current blocks `now`
unfoldable pub joined_block : Shape → Place → (ℕ → ℕ → List ℕ) → List ℕ
joined_block x at now =
    let previous = now at.lane (column_before x at) in
    let word = reference_word x at previous in
    let lane = reference_lane x at (word / 2 ^ 32) in
    joined previous (now lane (reference_column x at lane (word % 2 ^ 32)))

-- the block of a place: in the first pass a first block, or G's; in a later one G's, xored with the block
-- that is there (steps 5 and 6)
unfoldable pub new_block : Shape → List ℕ → Place → (ℕ → ℕ → List ℕ) → List ℕ
new_block x h0 at now =
    if at.pass == 0 then
    if nat_lt (column_of x at) 2 then first_block h0 at.lane (column_of x at) else joined_block x at now
    else xored (joined_block x at now) (now at.lane (column_of x at))

-- the table with the block of a place made
unfoldable pub with_block : Shape → List ℕ → Table → Place → Table
with_block x h0 table at = put table at.pass at.lane (column_of x at) (new_block x h0 at (latest x table at))

-- with the first n blocks of a segment made
unfoldable pub with_places : Shape → List ℕ → Table → ℕ → ℕ → ℕ → ℕ → Table
with_places x h0 table pass slice lane zero = table
with_places x h0 table pass slice lane (suc n) =
    with_block x h0 (with_places x h0 table pass slice lane n) (place pass slice lane n)

-- with the segments of the first n lanes
unfoldable pub with_lanes : Shape → List ℕ → Table → ℕ → ℕ → ℕ → Table
with_lanes x h0 table pass slice zero = table
with_lanes x h0 table pass slice (suc n) =
    with_places x h0 (with_lanes x h0 table pass slice n) pass slice n x.width

-- with the first n slices of a pass
unfoldable pub with_slices : Shape → List ℕ → Table → ℕ → ℕ → Table
with_slices x h0 table pass zero = table
with_slices x h0 table pass (suc n) = with_lanes x h0 (with_slices x h0 table pass n) pass n x.lanes

-- with the first n passes
unfoldable pub with_passes : Shape → List ℕ → ℕ → Table
with_passes x h0 zero = empty_table
with_passes x h0 (suc n) = with_slices x h0 (with_passes x h0 n) n 4
