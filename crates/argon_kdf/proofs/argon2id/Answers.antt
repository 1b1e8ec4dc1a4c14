use Rattle.std.proofs.Common.{◌≡◌, ◌∙◌, arith, length, drop}
use Rattle.std.proofs.lemmas.List.{take_at}
use Rattle.argon_kdf.specs.Shapes.{shape}
use Rattle.argon_kdf.specs.Argon2id.{argon2id_tag, tag_of}
use Rattle.argon_kdf.specs.Filling.{with_passes}
use Rattle.argon_kdf.proofs.Steps.{tag_from}
use Rattle.argon_kdf.proofs.argon2id.Goals as goal

pub returns-clause-tag : goal.returns-clause-tag
unfolding argon2id_tag
returns-clause-tag c =
    let x = shape c.new-layout.result in
    let table = with_passes x c.first_digest-h0.result c.new-layout.result.passes in
    let memory = c.fill.new.memory in
    let long : length memory ≡ c.in_ok-memory.memory.len =
    omega (arith, c.fill.ensures.whole, c.in_ok-memory.ensures.whole) in
    let same : c.deref.result.now ≡ memory = c.deref.ensures.value
    ∙ take_at memory (drop (length memory) c.in_ok-memory.memory.items) c.in_ok-memory.memory.len long in
    let sum = c.last_column-last.ensures table (rw same c.fill.ensures) in
    let tag : c.write_tag.new.tag ≡ tag_of x c.first_digest-h0.result =
    tag_from x c.first_digest-h0.result _ _ c.write_tag.ensures sum in
    tag ∙ (λ i. tag_of (c.new-layout.ensures i) (c.first_digest-h0.ensures i))
