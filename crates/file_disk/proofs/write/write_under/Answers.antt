-- The file grows, the blocks are stored again, and the size rises.
use Rattle.std.proofs.Common.{◌≢◌, ◌+◌, ◌/◌, ◌≤◌, ◌<◌, ℕ, length, refl, sym, ap, subst, ◌∙◌, arith}
use Rattle.std.proofs.lemmas.Bool.{eqb-true, eqb-false}
use Rattle.std.specs.Prelude.{max, min}
use Rattle.number_map.specs.Numbered.{changed}
use Rattle.data_crypt.specs.Blocks.{read_block, stored_block}
use Rattle.data_crypt.specs.Parts.{edited, rewritten}
use Rattle.disk_tree.specs.Nodes.{on_body, with_blocks}
use Rattle.disk_tree.specs.DiskTree.{Disk, file_blocks}
use Rattle.file_disk.specs.Keys.{seal_of}
use Rattle.file_disk.proofs.DiskLemmas.{grown_there}
use Rattle.file_disk.proofs.WholeLemmas.{nothing_written, write_done}
use Rattle.file_disk.proofs.write.write_under.Goals as goal

pub returns-then-is_empty-clause-written : goal.returns-then-is_empty-clause-written
returns-then-is_empty-clause-written c =
    nothing_written (seal_of c.args.key.now) c.args.offset c.args.bytes.now
    (eqb-true (length c.args.bytes.now) 0 (sym c.if-is_empty.ensures)) c.args.disk.now c.args.file

pub rewrite_blocks-requires-clause-there : goal.rewrite_blocks-requires-clause-there
rewrite_blocks-requires-clause-there c =
    let P : Disk → Type 0 = λ d. c.div_ceil-end.result ≤ length (file_blocks d c.args.file) in
    subst P (sym c.in-Ok.ensures.grown)
    (grown_there c.args.disk.now c.args.file c.div_ceil-end.result c.requires.file)

pub returns-in-Ok-clause-written : goal.returns-in-Ok-clause-written
returns-in-Ok-clause-written c =
    let had : ℕ = c.block_count-had.result in
    let some : 0 < length c.args.bytes.now = let other : length c.args.bytes.now ≢ 0 =
    eqb-false (length c.args.bytes.now) 0 (sym c.if-is_empty.ensures) in omega arith in
    write_done (seal_of c.args.key.now) c.args.offset c.args.bytes.now c.args.disk.now c.grow.new.self c.rewrite_blocks.new.disk c.set_size.new.self c.args.file had (min had (c.args.offset / 4096)) c.div_ceil-end.result c.max-size.result
    some c.block_count-had.ensures refl c.div_ceil-end.ensures c.in-Ok.ensures.grown
    (c.rewrite_blocks.ensures
    ∙ ap (λ s. changed c.grow.new.self c.args.file (on_body (with_blocks (edited (rewritten (stored_block s) (read_block s) had c.args.offset c.args.bytes.now) (min had (c.args.offset / 4096)) c.div_ceil-end.result)))) c.fill.ensures)
    (c.max-size.ensures ∙ ap (λ n. max n (c.args.offset + length c.args.bytes.now)) c.file_size.ensures)
    c.set_size.ensures
