use Rattle.std.proofs.Common.{◌≡◌, ◌∙◌, ◌<◌, ap, sym, arith, length, replicate, slice_index_or, slice_set, [], List, ℕ}
use Rattle.std.specs.Vec.{with_items}
use Rattle.std.proofs.lemmas.List.{length-map, with_items_is}
use Rattle.argon_kdf.specs.Blocks.{zero_block}
use Rattle.argon_kdf.specs.Slices.{segments_of}
use Rattle.argon_kdf.proofs.SliceLemmas.{segment_read, segments_set}
use Rattle.argon_kdf.proofs.ZeroLemmas.{next_counted}
use Rattle.argon_kdf.proofs.wiping.wipe_segments.Goals as goal

pub segments-preserved : goal.segments-preserved
segments-preserved c =
    let i = c.segments.segment-index in
    let all = segments_of c.segments.segments in
    let old = segments_of c.args.segments.now in
    let vector = slice_index_or c.segments.segments i c.segment-item.result in
    let zeros : List (List ℕ) → List (List ℕ) = λ segment. replicate (length segment) zero_block in
    let low : i < length old = omega (arith, c.segments-test.true, length-map c.args.segments.now (λ v. v.items)) in
    let inside : i < length c.segments.segments = omega (arith, c.segments-test.true, c.segments.auto.segments) in
    let read = segment_read c.segments.segments i c.segment-item.result inside in
    let wiped : c.wipe_blocks.new.memory ≡ zeros (slice_index_or all i []) =
    c.wipe_blocks.ensures ∙ ap zeros (c.as_mut_slice.ensures.value ∙ sym read) in
    let long : length c.wipe_blocks.new.memory ≡ vector.len =
    omega (arith, c.wipe_blocks.auto.memory, c.as_mut_slice.ensures.len) in
    segments_set c.segments.segments i (with_items vector c.wipe_blocks.new.memory)
    ∙ ap (λ (w : List (List ℕ)). slice_set all i w) (with_items_is vector c.wipe_blocks.new.memory long ∙ wiped)
    ∙ ap (λ (ys : List (List (List ℕ))). slice_set ys i (zeros (slice_index_or ys i []))) c.segments.invariant
    ∙ next_counted zeros [] old i low
