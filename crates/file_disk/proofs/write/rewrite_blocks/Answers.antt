-- One block more is stored again.
use Rattle.std.proofs.Common.{◌≡◌, ◌<◌, ℕ, List, length, sym, ap, ◌∙◌, arith}
use Rattle.number_map.specs.Numbered.{changed}
use Rattle.data_crypt.specs.Blocks.{read_block, stored_block}
use Rattle.data_crypt.specs.Parts.{edited, rewritten}
use Rattle.disk_tree.specs.Blocks.{block_of, with_block}
use Rattle.disk_tree.specs.DiskTree.{file_blocks}
use Rattle.disk_tree.specs.Nodes.{on_body, with_blocks}
use Rattle.data_crypt.specs.Ciphers.{seal_by}
use Rattle.file_disk.proofs.DiskLemmas.{blocks_begin, blocks_so_far, there_so_far, disk_next}
use Rattle.file_disk.proofs.write.rewrite_blocks.Goals as goal

pub each-init : goal.each-init
each-init c = blocks_begin (rewritten (stored_block (seal_by c.args.cipher.now)) (read_block (seal_by c.args.cipher.now)) c.args.had c.args.offset c.args.bytes.now) c.min-first.result c.args.disk.now c.args.file

pub block_mut-block-requires : goal.block_mut-block-requires
block_mut-block-requires c =
    let made : ℕ → List ℕ → List ℕ = rewritten (stored_block (seal_by c.args.cipher.now))
    (read_block (seal_by c.args.cipher.now)) c.args.had c.args.offset c.args.bytes.now in
    there_so_far made c.min-first.result c.each.j c.args.disk.now c.each.disk c.args.file c.each.invariant
    (omega arith)

pub each-preserved : goal.each-preserved
each-preserved c =
    let made : ℕ → List ℕ → List ℕ = rewritten (stored_block (seal_by c.args.cipher.now))
    (read_block (seal_by c.args.cipher.now)) c.args.had c.args.offset c.args.bytes.now in
    let block : List ℕ = c.rewrite_block.new.block in
    let low : c.each.j < length (file_blocks c.args.disk.now c.args.file) = omega arith in
    let was : c.block_mut-block.result.now ≡ block_of
    (edited made c.min-first.result c.each.j (file_blocks c.args.disk.now c.args.file)) c.each.j
    = c.block_mut-block.ensures.value ∙ ap (λ bs. block_of bs c.each.j)
    (blocks_so_far made c.min-first.result c.each.j c.args.disk.now c.each.disk c.args.file c.each.invariant
    (omega arith)) in
    ap (λ d. changed d c.args.file (on_body (with_blocks (with_block c.each.j block)))) c.each.invariant
    ∙ disk_next made c.min-first.result c.each.j c.each.auto.j c.args.disk.now c.args.file block low
    (c.rewrite_block.ensures ∙ ap (made c.each.j) was)
    (ap length (sym was) ∙ sym c.rewrite_block.auto.block)

pub returns : goal.returns
returns c =
    let made : ℕ → List ℕ → List ℕ = rewritten (stored_block (seal_by c.args.cipher.now))
    (read_block (seal_by c.args.cipher.now)) c.args.had c.args.offset c.args.bytes.now in
    let all : c.each.j ≡ c.args.end = omega arith in
    c.each.invariant
    ∙ (λ i. changed c.args.disk.now c.args.file (on_body (with_blocks (edited made (c.min-first.ensures i) (all i)))))
