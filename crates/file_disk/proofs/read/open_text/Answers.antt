-- The next block is the one that was passed, and is written over.
use Rattle.std.proofs.Common.{◌≡◌, ℕ, ◌+◌, ◌-◌, ◌*◌, ◌/◌, ◌<◌, List, length, refl, ap, ◌∙◌, arith}
use Rattle.byte_words.specs.Blocks.{block_at, first_blocks}
use Rattle.byte_words.proofs.BlockLemmas.{between-block_at}
use Rattle.byte_words.proofs.InPlace.{all_in_place, none_in_place, read_in_place_below, write_in_place_below}
use Rattle.data_crypt.specs.Blocks.{read_block}
use Rattle.data_crypt.specs.Parts.{opened_text}
use Rattle.data_crypt.specs.Ciphers.{seal_by}
use Rattle.file_disk.proofs.ReadLemmas.{length-opened_at}
use Rattle.file_disk.proofs.read.open_text.Goals as goal

pub each-init : goal.each-init
each-init c =
    none_in_place 4096 (λ i. read_block (seal_by c.args.cipher.now) (c.args.first + i)
    (block_at 4096 c.args.text.now i)) c.args.text.now

pub each-preserved : goal.each-preserved
each-preserved c =
    let f : ℕ → List ℕ = λ i. read_block (seal_by c.args.cipher.now) (c.args.first + i)
    (block_at 4096 c.args.text.now i) in
    let i : ℕ = c.each.i in
    let low : i < length c.args.text.now / 4096 = c.each-test.true in
    let sizes : (j : ℕ) → j < i → length (f j) ≡ 4096 =
    λ j below. length-opened_at (seal_by c.args.cipher.now) c.args.first c.args.text.now j
    (omega arith) in
    let long : 4096 * i + 4096 - 4096 * i ≡ 4096 = omega arith in
    let read : block_at 4096 c.each.text i ≡ block_at 4096 c.args.text.now i =
    read_in_place_below 4096 f i c.each.text c.args.text.now sizes c.each.invariant in
    let here : c.read_block.new.block ≡ f i =
    c.read_block.ensures
    ∙ ap (read_block (seal_by c.args.cipher.now) (c.args.first + i))
    (between-block_at 4096 c.each.text i (4096 * i) (4096 * i + 4096) refl refl ∙ read) in
    write_in_place_below 4096 f i (4096 * i) (4096 * i + 4096 - 4096 * i) c.each.text c.args.text.now c.read_block.new.block sizes refl long c.each.invariant here

pub returns : goal.returns
unfolding opened_text
returns c =
    let f : ℕ → List ℕ = λ i. read_block (seal_by c.args.cipher.now) (c.args.first + i)
    (block_at 4096 c.args.text.now i) in
    let at_end : c.each.i ≡ length c.args.text.now / 4096 = omega arith in
    all_in_place 4096 f c.each.i c.each.text c.args.text.now c.each.invariant (omega arith)
    ∙ ap (first_blocks f) at_end
