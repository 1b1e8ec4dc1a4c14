use Rattle.std.proofs.Common.{arith}
use Rattle.argon_kdf.specs.Permutation.{permuted}
use Rattle.argon_kdf.specs.Blocks.{row, row_permuted}
use Rattle.argon_kdf.proofs.Permuting.{permuted_words}
use Rattle.argon_kdf.proofs.Squares.{row_written}
use Rattle.argon_kdf.proofs.block.permute_row.Goals as goal

pub returns : goal.returns
unfolding row_permuted
returns c =
    rw (c.permute-v.ensures, c.row_of.ensures)
    (row_written c.args.block.now (permuted (row c.args.block.now c.args.i)) c.args.i (omega arith) c.requires
    (permuted_words (row c.args.block.now c.args.i)))
