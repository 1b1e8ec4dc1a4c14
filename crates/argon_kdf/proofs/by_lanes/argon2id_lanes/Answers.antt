use Rattle.std.proofs.Common.{◌≡◌, ◌∙◌, length, drop, arith}
use Rattle.std.proofs.lemmas.List.{take_at}
use Rattle.argon_kdf.specs.Shapes.{shape}
use Rattle.argon_kdf.specs.Argon2id.{argon2id_tag, tag_of}
use Rattle.argon_kdf.specs.Filling.{with_passes}
use Rattle.argon_kdf.proofs.SliceLemmas.{memory_long}
use Rattle.argon_kdf.proofs.Steps.{tag_from}
use Rattle.argon_kdf.proofs.by_lanes.argon2id_lanes.Goals as goal

pub returns-clause-tag : goal.returns-clause-tag
unfolding argon2id_tag
returns-clause-tag g c =
    let x = shape c.new-layout.result in
    let h0 = c.first_digest-h0.result in
    let table = with_passes x h0 c.new-layout.result.passes in
    let first = c.in_ok-memory.memory in
    let made = c.later_passes.new.memory in
    let long : length made ≡ first.len =
    omega (
      arith,
      first.ok.0,
      memory_long x first.items 4 c.in_ok-memory.ensures.whole.count,
      memory_long x made 4 c.later_passes.ensures.whole.count,
    ) in
    let same : c.deref.result.now ≡ made =
    c.deref.ensures.value ∙ take_at made (drop (length made) first.items) first.len long in
    let filled = c.later_passes.ensures.filled h0 (rw c.deref_mut-2.ensures.value c.in_ok-memory.ensures.filled) in
    let sum = c.last_column-last.ensures table (rw same filled) in
    let tag : c.write_tag.new.tag ≡ tag_of x h0 = tag_from x h0 _ _ c.write_tag.ensures sum in
    tag ∙ (λ i. tag_of (c.new-layout.ensures i) (c.first_digest-h0.ensures i))
