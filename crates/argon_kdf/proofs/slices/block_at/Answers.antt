use Rattle.std.proofs.Common.{◌≡◌, ℕ, ◌/◌, ◌%◌, ◌<◌, List, [], length, slice_index_or, refl, sym, ap, ◌∙◌, arith}
use Rattle.std.proofs.lemmas.Nat.{mod_below}
use Rattle.argon_kdf.specs.Blocks.{zero_block}
use Rattle.argon_kdf.specs.Shapes.{shape}
use Rattle.argon_kdf.specs.Slices.{IsSlice, segments_of, slices_of}
use Rattle.argon_kdf.proofs.SliceLemmas.{block_is, memory_long, same_default, segment_read, slice_lanes, slice_parts}
use Rattle.argon_kdf.proofs.SliceLemmas.{slice_read}
use Rattle.argon_kdf.proofs.slices.block_at.Goals as goal

pub index-requires-2 : goal.index-requires-2
index-requires-2 c =
    let x = shape c.args.layout in
    let some : 0 < c.args.layout.width = omega (arith, c.args.layout.wide) in
    let n : ℕ = c.args.column / c.args.layout.width in
    let within : n < length c.args.memory.now =
    omega (arith, c.requires.slice.within, memory_long x c.args.memory.now _ refl) in
    let e = c.index-memory-column.result in
    let read : slice_index_or (slices_of c.args.memory.now) n [] ≡ segments_of e.items =
    slice_read c.args.memory.now n e within
    ∙ ap (λ (v : _). segments_of v.items) (sym c.index-memory-column.is) in
    let slice : IsSlice x (segments_of e.items) = rw read at c.requires.slice.slice in
    let lane : c.args.lane < length e.items = omega (arith, slice_lanes x e.items slice, c.requires.lane) in
    let v = c.index.result.now in
    let size : length v.items ≡ c.args.layout.width =
    ap (λ (t : _). length t.items) c.index.ensures ∙ slice_parts x e.items slice c.args.lane v lane in
    omega (arith, v.ok.0, size, mod_below c.args.column c.args.layout.width some)

pub returns : goal.returns
returns c =
    let x = shape c.args.layout in
    let some : 0 < c.args.layout.width = omega (arith, c.args.layout.wide) in
    let n : ℕ = c.args.column / c.args.layout.width in
    let k : ℕ = c.args.column % c.args.layout.width in
    let within : n < length c.args.memory.now =
    omega (arith, c.requires.slice.within, memory_long x c.args.memory.now _ refl) in
    let e = c.index-memory-column.result in
    let read : slice_index_or (slices_of c.args.memory.now) n [] ≡ segments_of e.items =
    slice_read c.args.memory.now n e within
    ∙ ap (λ (v : _). segments_of v.items) (sym c.index-memory-column.is) in
    let slice : IsSlice x (segments_of e.items) = rw read at c.requires.slice.slice in
    let lane : c.args.lane < length e.items = omega (arith, slice_lanes x e.items slice, c.requires.lane) in
    let v = c.index.result.now in
    let size : length v.items ≡ c.args.layout.width =
    ap (λ (t : _). length t.items) c.index.ensures ∙ slice_parts x e.items slice c.args.lane v lane in
    let segment : slice_index_or (segments_of e.items) c.args.lane [] ≡ v.items =
    segment_read e.items c.args.lane v lane ∙ ap (λ (t : _). t.items) (sym c.index.ensures) in
    let low : k < length v.items = omega (arith, size, mod_below c.args.column c.args.layout.width some) in
    c.index-2.ensures ∙ same_default v.items k c.index-2.result.now zero_block low
    ∙ ap (λ (t : List (List ℕ)). slice_index_or t k zero_block) (sym segment)
    ∙ ap (λ (t : List (List (List ℕ))). slice_index_or (slice_index_or t c.args.lane []) k zero_block) (sym read)
    ∙ sym (block_is x (slices_of c.args.memory.now) n c.args.lane c.args.column refl)
