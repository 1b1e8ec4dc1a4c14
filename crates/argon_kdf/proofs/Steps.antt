-- A step of the filling, from the blocks that the program reads.
use Rattle.std.proofs.Common.{◌≡◌, ℕ, ◌+◌, ◌-◌, ◌*◌, ◌/◌, ◌%◌, ◌^◌, ◌<◌, ◌≤◌, ◌==◌, true, false, nat_lt, List}
use Rattle.std.proofs.Common.{[], slice_index_or, slice_set, refl, ap, ◌∙◌, arith, add-one}
use Rattle.std.proofs.Math.Nat.{mul-le-mul_left}
use Rattle.std.proofs.lemmas.Bool.Decides.{nat_tests}
use Rattle.argon_kdf.specs.declared.layout.Place.{Place}
use Rattle.argon_kdf.specs.Blocks.{joined, xored, zero_block}
use Rattle.argon_kdf.specs.Shapes.{Shape, IsWithin, place, columns, block_count, column_of, column_before}
use Rattle.argon_kdf.specs.References.{address_input, address_block, reference_word, reference_lane}
use Rattle.argon_kdf.specs.References.{reference_column}
use Rattle.argon_kdf.specs.Tables.{Table, empty_table, latest}
use Rattle.argon_kdf.specs.Filling.{first_block, joined_block, new_block, with_block, with_places, with_lanes}
use Rattle.argon_kdf.specs.Filling.{with_slices, with_passes}
use Rattle.argon_kdf.specs.Argon2id.{lanes_xored, tag_of}
use Rattle.argon_kdf.specs.LongDigest.{long_digest}
use Rattle.byte_words.specs.Words.{bytes_of_words}
use Rattle.argon_kdf.specs.Memory.{IsFilledTo}
use Rattle.argon_kdf.proofs.Standing.{Stands_put}

-- what the program reads on the way to a block
pub record Reads (x : Shape) (memory : List (List ℕ)) (at : Place)
    (before from word lane column to : ℕ) : Type 0 where
  pub before_inside : before < columns x
  pub before_is : before ≡ column_before x at
  pub from_is : from ≡ at.lane * columns x + before
  pub word_is : word ≡ reference_word x at (slice_index_or memory from [])
  pub lane_low : lane < x.lanes
  pub lane_is : lane ≡ reference_lane x at (word / 2 ^ 32)
  pub column_inside : column < columns x
  pub column_is : column ≡ reference_column x at lane (word % 2 ^ 32)
  pub to_is : to ≡ lane * columns x + column

pub joined_from : (x : Shape) (memory : List (List ℕ)) (b : Table) (at : Place)
    (before from word lane column to : ℕ) (new : List ℕ)
    → Reads x memory at before from word lane column to → at.lane < x.lanes → IsFilledTo x memory b at
    → new ≡ joined (slice_index_or memory from []) (slice_index_or memory to [])
    → new ≡ joined_block x at (latest x b at)
unfolding joined_block
joined_from x memory b at before from word lane column to new r low st made =
    let previous : slice_index_or memory from [] ≡ latest x b at at.lane before =
    rw r.from_is (st.shows at.lane before low r.before_inside) in
    let referred : slice_index_or memory to [] ≡ latest x b at lane column =
    rw r.to_is (st.shows lane column r.lane_low r.column_inside) in
    rw (← r.before_is, ← previous, ← r.word_is, ← r.lane_is, ← r.column_is, ← referred) made

-- ---- the block of a place

pub new_first : (x : Shape) (h0 : List ℕ) (at : Place) (now : ℕ → ℕ → List ℕ) (column : ℕ) (new : List ℕ)
    → at.pass ≤ 0 → column < 2
    → column ≡ column_of x at → new ≡ first_block h0 at.lane column → new ≡ new_block x h0 at now
unfolding new_block
new_first x h0 at now column new first low is made =
    let is_first : (at.pass == 0) ≡ true = grind (arith, nat_tests) in
    let is_low : nat_lt (column_of x at) 2 ≡ true = grind (arith, nat_tests) in
    rw (is_first, is_low) (rw is at made)

pub new_joined : (x : Shape) (h0 : List ℕ) (at : Place) (now : ℕ → ℕ → List ℕ) (column : ℕ) (new : List ℕ)
    → at.pass ≤ 0 → 2 ≤ column
    → column ≡ column_of x at → new ≡ joined_block x at now → new ≡ new_block x h0 at now
unfolding new_block
new_joined x h0 at now column new first past is made =
    let is_first : (at.pass == 0) ≡ true = grind (arith, nat_tests) in
    let is_past : nat_lt (column_of x at) 2 ≡ false = grind (arith, nat_tests) in
    rw (is_first, is_past) made

pub new_later : (x : Shape) (h0 : List ℕ) (memory : List (List ℕ)) (b : Table) (at : Place) (column here : ℕ)
    (block new : List ℕ) → 0 < at.pass
    → at.lane < x.lanes → column < columns x → column ≡ column_of x at → IsFilledTo x memory b at
    → block ≡ joined_block x at (latest x b at)
    → here ≡ at.lane * columns x + column → new ≡ xored block (slice_index_or memory here [])
    → new ≡ new_block x h0 at (latest x b at)
unfolding new_block
new_later x h0 memory b at column here block new later low inside is st joined_is here_is made =
    let not_first : (at.pass == 0) ≡ false = grind (arith, nat_tests) in
    let old : slice_index_or memory here [] ≡ latest x b at at.lane column =
    rw here_is (st.shows at.lane column low inside) in
    rw (not_first, ← is, ← joined_is, ← old) made

-- it is written
pub Stands_block : (x : Shape) (h0 : List ℕ) (memory : List (List ℕ)) (b : Table) (at : Place) (offset : ℕ)
    (new : List ℕ) → IsWithin x at
    → offset ≡ at.lane * columns x + column_of x at → offset < block_count x
    → new ≡ new_block x h0 at (latest x b at) → IsFilledTo x memory b at
    → IsFilledTo x (slice_set memory offset new) (with_block x h0 b at)
    (place at.pass at.slice at.lane (at.index + 1))
unfolding with_block
Stands_block x h0 memory b at offset new within offset_is inside made st =
    let next : at.slice + 1 ≤ 4 = omega (arith, within.slice) in
    rw (← made)
    (Stands_put x memory b at.pass at.slice at.lane at.index offset new within.lane
    (omega (arith, mul-le-mul_left x.width next, within.index)) offset_is inside st)

-- the address blocks of a segment are the same at each of its places
pub address_block_same : (x : Shape) (w s i k n c : ℕ)
    → address_block x (place w s i k) c ≡ address_block x (place w s i n) c
unfolding address_block address_input
address_block_same x w s i k n c = refl

-- ---- one more of each

pub with_places_none : (x : Shape) (h0 : List ℕ) (b : Table) (w s i : ℕ) → with_places x h0 b w s i 0 ≡ b
unfolding with_places
with_places_none x h0 b w s i = refl

pub with_places_next : (x : Shape) (h0 : List ℕ) (b : Table) (w s i n : ℕ)
    → with_places x h0 b w s i (n + 1) ≡ with_block x h0 (with_places x h0 b w s i n) (place w s i n)
unfolding with_places
with_places_next x h0 b w s i n = rw add-one refl

pub with_lanes_none : (x : Shape) (h0 : List ℕ) (b : Table) (w s : ℕ) → with_lanes x h0 b w s 0 ≡ b
unfolding with_lanes
with_lanes_none x h0 b w s = refl

pub with_lanes_next : (x : Shape) (h0 : List ℕ) (b : Table) (w s n : ℕ)
    → with_lanes x h0 b w s (n + 1) ≡ with_places x h0 (with_lanes x h0 b w s n) w s n x.width
unfolding with_lanes
with_lanes_next x h0 b w s n = rw add-one refl

pub with_slices_none : (x : Shape) (h0 : List ℕ) (b : Table) (w : ℕ) → with_slices x h0 b w 0 ≡ b
unfolding with_slices
with_slices_none x h0 b w = refl

pub with_slices_next : (x : Shape) (h0 : List ℕ) (b : Table) (w n : ℕ)
    → with_slices x h0 b w (n + 1) ≡ with_lanes x h0 (with_slices x h0 b w n) w n x.lanes
unfolding with_slices
with_slices_next x h0 b w n = rw add-one refl

pub with_passes_none : (x : Shape) (h0 : List ℕ) → with_passes x h0 0 ≡ empty_table
unfolding with_passes
with_passes_none x h0 = refl

pub with_passes_next : (x : Shape) (h0 : List ℕ) (n : ℕ)
    → with_passes x h0 (n + 1) ≡ with_slices x h0 (with_passes x h0 n) n 4
unfolding with_passes
with_passes_next x h0 n = rw add-one refl

pub lanes_xored_none : (blocks : ℕ → ℕ → List ℕ) (column : ℕ) → lanes_xored blocks column 0 ≡ zero_block
unfolding lanes_xored
lanes_xored_none blocks column = refl

pub lanes_xored_next : (blocks : ℕ → ℕ → List ℕ) (column n : ℕ)
    → lanes_xored blocks column (n + 1) ≡ xored (lanes_xored blocks column n) (blocks n column)
unfolding lanes_xored
lanes_xored_next blocks column n = rw add-one refl

-- ---- the tag

pub tag_from : (x : Shape) (h0 sum tag : List ℕ) → tag ≡ long_digest 32 (bytes_of_words sum)
    → sum ≡ lanes_xored (with_passes x h0 x.passes (x.passes - 1)) (columns x - 1) x.lanes → tag ≡ tag_of x h0
unfolding tag_of
tag_from x h0 sum tag made summed =
    made ∙ ap (λ (block : List ℕ). long_digest 32 (bytes_of_words block)) summed
