-- A block that was there is read, unless the bytes cover it; a new one is not.
use Rattle.std.proofs.Common.{ℕ, List, sym, ap, ◌∙◌}
use Rattle.std.specs.Prelude.{Option}
use Rattle.data_crypt.specs.Blocks.{Seal, stored_block}
use Rattle.data_crypt.specs.Parts.{block_with}
use Rattle.data_crypt.specs.Ciphers.{seal_by}
use Rattle.file_disk.proofs.CoverLemmas.{anew_read, anew_new, anew_covered}
use Rattle.file_disk.proofs.write.rewrite_block.Goals as goal
use Rattle.file_disk.proofs.write.rewrite_block.Goals.{then-index-had+then-not-covers_block, else-index-had}
use Rattle.file_disk.proofs.write.rewrite_block.Goals.{else-index-had-via-then-index-had+else-not-covers_block}
use Rattle.file_disk.proofs.write.rewrite_block.Goals.{else-index-had-via-else-index-had}

pub returns : goal.returns
returns c =
    let seal : Option Seal = seal_by c.args.cipher.now in
    let put : List ℕ → List ℕ = λ b. stored_block seal c.args.index
    (block_with c.args.offset c.args.bytes.now c.args.index b) in
    c.store_block.ensures ∙ ap (stored_block seal c.args.index) c.put_part.ensures
    ∙ elim c.if-index-had.branch [
      | then-index-had+then-not-covers_block w ↦
          ap put (w.block-is ∙ w.read_block.ensures)
          ∙ anew_read seal c.args.had c.args.offset c.args.bytes.now c.args.index c.args.block.now
          w.if-index-had.true
      | else-index-had w ↦ ap put w.block-is ∙ elim w.else-index-had.branch [
        | else-index-had-via-then-index-had+else-not-covers_block w' ↦
            anew_covered seal c.args.had c.args.offset c.args.bytes.now c.args.index c.args.block.now
            (sym w'.covers_block.ensures ∙ w'.if-not-covers_block.false) c.requires.block_size
        | else-index-had-via-else-index-had w' ↦
            anew_new seal c.args.had c.args.offset c.args.bytes.now c.args.index c.args.block.now
            w'.if-index-had.false
      ]
    ]
