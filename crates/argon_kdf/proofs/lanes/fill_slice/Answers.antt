use Rattle.std.proofs.Common.{◌≡◌, ◌≢◌, ℕ, ◌+◌, ◌*◌, ◌/◌, ◌<◌, List, [], length, drop, slice_index_or}
use Rattle.std.proofs.Common.{slice_set, get_or-set_same, sym, ap, ◌∙◌, arith}
use Rattle.std.proofs.lemmas.List.{take_at}
use Rattle.std.specs.declared.vec.Vec.{Vec}
use Rattle.std.specs.declared.alloc.Global.{Global}
use Rattle.argon_kdf.specs.Blocks.{zero_block}
use Rattle.argon_kdf.specs.Shapes.{Shape, shape}
use Rattle.argon_kdf.specs.Slices.{IsSlice, IsWhole, IsWholeBut, segments_of, slices_of}
use Rattle.argon_kdf.specs.SeenBlocks.{block_at}
use Rattle.argon_kdf.specs.Filling.{with_places}
use Rattle.argon_kdf.proofs.AloneLemmas.{Shows_placed}
use Rattle.argon_kdf.proofs.SegmentLemmas.{Begun_start}
use Rattle.argon_kdf.proofs.SliceLemmas.{block_in, block_same, each_segment, memory_long, put_back, segment_read}
use Rattle.argon_kdf.proofs.SliceLemmas.{slice_from, slice_kept, slice_lanes, slice_outside, slice_parts}
use Rattle.argon_kdf.proofs.SliceLemmas.{slice_read, slices_set, taken_out}
use Rattle.argon_kdf.proofs.lanes.fill_slice.Goals as goal

-- the slice that is taken out
taken : (x : Shape) (m : List (Vec (Vec (List ℕ) Global) Global)) (s : ℕ) (v e : Vec (Vec (List ℕ) Global) Global)
    → s < 4 → IsWhole x (slices_of m) → v ≡ slice_index_or m s v → e ≡ v
    → slice_index_or (slices_of m) s [] ≡ segments_of e.items
taken x m s v e low whole is same =
    slice_read m s v (omega (arith, memory_long x m 4 whole.count))
    ∙ ap (λ (t : Vec (Vec (List ℕ) Global) Global). segments_of t.items) (sym is)
    ∙ ap (λ (t : Vec (Vec (List ℕ) Global) Global). segments_of t.items) (sym same)

is_slice : (x : Shape) (m : List (Vec (Vec (List ℕ) Global) Global)) (s : ℕ)
    (v e : Vec (Vec (List ℕ) Global) Global) → s < 4 → IsWhole x (slices_of m) → v ≡ slice_index_or m s v → e ≡ v
    → IsSlice x (segments_of e.items)
is_slice x m s v e low whole is same = rw (taken x m s v e low whole is same) at (whole.slices s low)

without : (x : Shape) (m : List (Vec (Vec (List ℕ) Global) Global)) (s : ℕ) (d : Vec (Vec (List ℕ) Global) Global)
    → IsWhole x (slices_of m) → IsWholeBut x s (slices_of (slice_set m s d))
without x m s d whole = rw (slices_set m s d) (taken_out x (slices_of m) s (segments_of d.items) whole)

-- the slice in memory again, with its segments made
record Made (x : Shape) (m : List (Vec (Vec (List ℕ) Global) Global)) (s : ℕ)
    (d e : Vec (Vec (List ℕ) Global) Global) (new : List (Vec (List ℕ) Global)) : Type 0 where
  whole : IsWhole x (slices_of (slice_set (slice_set m s d) s e))
  here : slice_index_or (slices_of (slice_set (slice_set m s d) s e)) s [] ≡ segments_of new
  others : (n : ℕ) → n ≢ s → slice_index_or (slices_of (slice_set (slice_set m s d) s e)) n []
      ≡ slice_index_or (slices_of m) n []

made : (x : Shape) (m : List (Vec (Vec (List ℕ) Global) Global)) (s : ℕ)
    (d e : Vec (Vec (List ℕ) Global) Global) (new : List (Vec (List ℕ) Global)) → s < 4 → IsWhole x (slices_of m)
    → e.items ≡ new → IsSlice x (segments_of new) → Made x m s d e new
made x m s d e new low whole items slice =
    let out : List (List (List (List ℕ))) = slices_of (slice_set m s d) in
    let but : IsWholeBut x s out = without x m s d whole in
    let same : segments_of e.items ≡ segments_of new = ap segments_of items in
    record {
      whole =
          rw (slices_set (slice_set m s d) s e, items) (put_back x out s (segments_of new) low but slice);
      here =
          ap (λ (t : List (List (List (List ℕ)))). slice_index_or t s []) (slices_set (slice_set m s d) s e)
          ∙ get_or-set_same out s (segments_of e.items) [] (omega (arith, but.count)) ∙ same;
      others = λ n other.
          ap (λ (t : List (List (List (List ℕ)))). slice_index_or t n []) (slices_set (slice_set m s d) s e)
          ∙ slice_kept out s n (segments_of e.items) other
          ∙ ap (λ (t : List (List (List (List ℕ)))). slice_index_or t n []) (slices_set m s d)
          ∙ slice_kept (slices_of m) s n (segments_of d.items) other;
    }

-- without the slice, the other slices are as they were
kept_without : (m : List (Vec (Vec (List ℕ) Global) Global)) (s : ℕ) (d : Vec (Vec (List ℕ) Global) Global) (n : ℕ)
    → n ≢ s → slice_index_or (slices_of (slice_set m s d)) n [] ≡ slice_index_or (slices_of m) n []
kept_without m s d n other =
    ap (λ (t : List (List (List (List ℕ)))). slice_index_or t n []) (slices_set m s d)
    ∙ slice_kept (slices_of m) s n (segments_of d.items) other

pub make_segments-requires-clause-memory : goal.make_segments-requires-clause-memory
make_segments-requires-clause-memory g c κs within =
    without (shape c.args.layout) c.args.memory.now c.args.slice c.replace-segments.new.dest c.requires.whole

pub make_segments-requires-clause-lanes : goal.make_segments-requires-clause-lanes
make_segments-requires-clause-lanes g c κs within =
    let x = shape c.args.layout in
    ap length c.deref_mut.ensures.value
    ∙ slice_lanes x c.replace-segments.result.items
    (is_slice x c.args.memory.now c.args.slice c.index-memory-slice.result c.replace-segments.result
    c.requires.slice c.requires.whole c.index-memory-slice.is
    (c.replace-segments.ensures.value ∙ sym c.index-memory-slice.is))

pub make_segments-requires-clause-parts : goal.make_segments-requires-clause-parts
make_segments-requires-clause-parts g c κs within =
    let x = shape c.args.layout in
    rw c.deref_mut.ensures.value
    (slice_parts x c.replace-segments.result.items
    (is_slice x c.args.memory.now c.args.slice c.index-memory-slice.result c.replace-segments.result
    c.requires.slice c.requires.whole c.index-memory-slice.is
    (c.replace-segments.ensures.value ∙ sym c.index-memory-slice.is)))

pub returns-clause-whole : goal.returns-clause-whole
returns-clause-whole g c =
    let x = shape c.args.layout in
    let seg = c.replace-segments.result in
    let new = c.make_segments.new.segments in
    let slice = is_slice x c.args.memory.now c.args.slice c.index-memory-slice.result seg
    c.requires.slice c.requires.whole c.index-memory-slice.is
    (c.replace-segments.ensures.value ∙ sym c.index-memory-slice.is) in
    let long : length new ≡ seg.len =
    omega (arith, c.make_segments.ensures.lanes, slice_lanes x seg.items slice, seg.ok.0) in
    (made x c.args.memory.now c.args.slice c.replace-segments.new.dest _ new c.requires.slice c.requires.whole
    (take_at new (drop (length new) seg.items) seg.len long)
    (slice_from x new c.make_segments.ensures.lanes c.make_segments.ensures.parts)).whole

pub returns-clause-filled : goal.returns-clause-filled
returns-clause-filled g c = λ h0 table st.
    let x = shape c.args.layout in
    let m = c.args.memory.now in
    let s = c.args.slice in
    let w = c.args.pass in
    let d = c.replace-segments.new.dest in
    let seg = c.replace-segments.result in
    let new = c.make_segments.new.segments in
    let slice = is_slice x m s c.index-memory-slice.result seg
    c.requires.slice c.requires.whole c.index-memory-slice.is
    (c.replace-segments.ensures.value ∙ sym c.index-memory-slice.is) in
    let read = taken x m s c.index-memory-slice.result seg
    c.requires.slice c.requires.whole c.index-memory-slice.is
    (c.replace-segments.ensures.value ∙ sym c.index-memory-slice.is) in
    let long : length new ≡ seg.len =
    omega (arith, c.make_segments.ensures.lanes, slice_lanes x seg.items slice, seg.ok.0) in
    let done = made x m s d _ new c.requires.slice c.requires.whole
    (take_at new (drop (length new) seg.items) seg.len long)
    (slice_from x new c.make_segments.ensures.lanes c.make_segments.ensures.parts) in
    let some : 0 < x.width = omega (arith, c.args.layout.wide) in
    Shows_placed x h0 (block_at x (slices_of m)) _ table w s c.args.layout.wide c.requires.slice st
    (λ l k low inside.
    let old : l < length seg.items = omega (arith, slice_lanes x seg.items slice) in
    block_in x _ s l k inside
    ∙ ap (λ (t : List (List (List ℕ))). slice_index_or (slice_index_or t l []) k zero_block) done.here
    ∙ each_segment new l (λ (t : List (List ℕ)). slice_index_or t k zero_block
    ≡ with_places x h0 table w s l x.width w l (s * x.width + k))
    (omega (arith, c.make_segments.ensures.lanes))
    (λ v. c.make_segments.ensures.made h0 table l v k low inside
    (rw c.deref_mut.ensures.value
    (Begun_start x (slices_of m) (slices_of (slice_set m s d)) (slice_index_or seg.items l v).items table w s l
    c.args.layout.wide (kept_without m s d)
    (sym (segment_read seg.items l v old)
    ∙ ap (λ (t : List (List (List ℕ))). slice_index_or t l []) (sym read)) st))))
    (λ l z low inside out. block_same x _ (slices_of m) l z
    (done.others (z / x.width) (slice_outside x s z some out)))
