use Rattle.std.proofs.Common.{◌≡◌, ℕ, ◌+◌, ◌*◌, ◌/◌, ◌<◌, ◌≤◌, List, [], ◌∷◌, ◌++◌, length, drop, slice_index_or}
use Rattle.std.proofs.Common.{refl, sym, ap, ◌∙◌, arith}
use Rattle.std.proofs.lemmas.List.{take_at}
use Rattle.std.specs.declared.vec.Vec.{Vec}
use Rattle.std.specs.declared.alloc.Global.{Global}
use Rattle.argon_kdf.specs.Blocks.{zero_block}
use Rattle.argon_kdf.specs.Shapes.{Shape, place, shape}
use Rattle.argon_kdf.specs.Slices.{HasSlices, segments_of, slices_of}
use Rattle.argon_kdf.specs.SeenBlocks.{block_at}
use Rattle.argon_kdf.specs.Tables.{Table}
use Rattle.argon_kdf.specs.Filling.{with_lanes, with_places}
use Rattle.argon_kdf.specs.Memory.{Shows}
use Rattle.argon_kdf.specs.Segments.{BeginsSegment}
use Rattle.argon_kdf.proofs.AloneLemmas.{Shows_placed}
use Rattle.argon_kdf.proofs.SegmentLemmas.{Begun_start}
use Rattle.argon_kdf.proofs.SliceLemmas.{appended_here, appended_other, block_in, block_same, each_segment}
use Rattle.argon_kdf.proofs.SliceLemmas.{read_past, slice_from, slice_outside}
use Rattle.argon_kdf.proofs.first_pass.grow_slice.Goals as goal

-- memory followed by the new segments
grown : (x : Shape) (h0 : List ℕ) (m : List (List (List (List ℕ)))) (new : List (Vec (List ℕ) Global)) (b : Table)
    (s : ℕ) → 2 ≤ x.width → s < 4 → HasSlices x s m → length new ≡ x.lanes
    → ((l : ℕ) (d : Vec (List ℕ) Global) (k : ℕ) → l < x.lanes → k < x.width → BeginsSegment x m [] b (place 0 s l 0)
    → slice_index_or (slice_index_or new l d).items k zero_block
    ≡ with_places x h0 b 0 s l x.width 0 l (s * x.width + k))
    → Shows x (block_at x m) b (place 0 s 0 0)
    → Shows x (block_at x (m ++ segments_of new ∷ [])) (with_lanes x h0 b 0 s x.lanes) (place 0 (s + 1) 0 0)
grown x h0 m new b s wide slice has lanes made st =
    let v : List (List (List ℕ)) = segments_of new in
    let nothing : slice_index_or m s [] ≡ [] = read_past m s [] (omega (arith, has.count)) in
    Shows_placed x h0 (block_at x m) (block_at x (m ++ v ∷ [])) b 0 s wide slice st
    (λ l k low inside.
    block_in x (m ++ v ∷ []) s l k inside
    ∙ ap (λ (t : List (List (List ℕ))). slice_index_or (slice_index_or t l []) k zero_block)
    (appended_here m v [] s has.count)
    ∙ each_segment new l (λ (t : List (List ℕ)). slice_index_or t k zero_block
    ≡ with_places x h0 b 0 s l x.width 0 l (s * x.width + k)) (omega (arith, lanes))
    (λ d. made l d k low inside
    (Begun_start x m m [] b 0 s l wide (λ n other. refl)
    (sym (ap (λ (t : List (List (List ℕ))). slice_index_or t l []) nothing)) st)))
    (λ l z low inside out. block_same x (m ++ v ∷ []) m l z
    (appended_other m v [] (z / x.width) (λ e. slice_outside x s z (omega arith) out (e ∙ has.count))))

pub returns-clause-whole : goal.returns-clause-whole
returns-clause-whole g c =
    let x = shape c.args.layout in
    let seg = c.args.segments in
    let new = c.grow_segments.new.segments in
    let long : length new ≡ seg.len =
    omega (arith, c.grow_segments.ensures.lanes, c.requires.room.lanes, seg.ok.0) in
    rw (take_at new (drop (length new) seg.items) seg.len long)
    (slice_from x new c.grow_segments.ensures.lanes c.grow_segments.ensures.parts)

pub returns-clause-made : goal.returns-clause-made
returns-clause-made g c = λ table st.
    let x = shape c.args.layout in
    let seg = c.args.segments in
    let new = c.grow_segments.new.segments in
    let long : length new ≡ seg.len =
    omega (arith, c.grow_segments.ensures.lanes, c.requires.room.lanes, seg.ok.0) in
    rw (take_at new (drop (length new) seg.items) seg.len long)
    (grown x c.args.h0.now (slices_of c.args.memory.now) new table c.args.slice c.args.layout.wide c.requires.slice
    c.requires.memory c.grow_segments.ensures.lanes
    (λ l d k low inside begun. c.grow_segments.ensures.made table l d k low inside begun) st)
