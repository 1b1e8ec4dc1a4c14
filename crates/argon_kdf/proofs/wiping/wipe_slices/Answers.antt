use Rattle.std.proofs.Common.{◌≡◌, ◌∙◌, ◌<◌, ap, sym, arith, length, slice_index_or, slice_set, [], List, ℕ}
use Rattle.std.specs.Vec.{with_items}
use Rattle.std.proofs.lemmas.List.{length-map, with_items_is}
use Rattle.argon_kdf.specs.Slices.{segments_of, slices_of, zero_segments}
use Rattle.argon_kdf.proofs.SliceLemmas.{slice_read, slices_set}
use Rattle.argon_kdf.proofs.ZeroLemmas.{next_counted}
use Rattle.argon_kdf.proofs.wiping.wipe_slices.Goals as goal

pub slices-preserved : goal.slices-preserved
slices-preserved c =
    let i = c.slices.segments-index in
    let all = slices_of c.slices.memory in
    let old = slices_of c.args.memory.now in
    let vector = slice_index_or c.slices.memory i c.segments-item.result in
    let low : i < length old =
    omega (arith, c.slices-test.true, length-map c.args.memory.now (λ v. segments_of v.items)) in
    let inside : i < length c.slices.memory = omega (arith, c.slices-test.true, c.slices.auto.memory) in
    let read = slice_read c.slices.memory i c.segments-item.result inside in
    let wiped : segments_of c.wipe_segments.new.segments ≡ zero_segments (slice_index_or all i []) =
    c.wipe_segments.ensures
    ∙ ap (λ ys. zero_segments (segments_of ys)) c.as_mut_slice.ensures.value ∙ ap zero_segments (sym read) in
    let long : length c.wipe_segments.new.segments ≡ vector.len =
    omega (arith, c.wipe_segments.auto.segments, c.as_mut_slice.ensures.len) in
    let whole = with_items_is vector c.wipe_segments.new.segments long in
    slices_set c.slices.memory i (with_items vector c.wipe_segments.new.segments)
    ∙ ap (λ (w : List (List (List ℕ))). slice_set all i w) (ap segments_of whole ∙ wiped)
    ∙ ap (λ (ys : List (List (List (List ℕ)))). slice_set ys i (zero_segments (slice_index_or ys i []))) c.slices.invariant
    ∙ next_counted zero_segments [] old i low
