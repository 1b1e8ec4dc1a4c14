use Rattle.std.proofs.Common.{◌≡◌, length}
use Rattle.argon_kdf.specs.Blocks.{first_rows_permuted, transposed}
use Rattle.argon_kdf.proofs.block.permute_columns.Given as goal

abbrev pub invariant-columns : goal.invariant-columns
invariant-columns l = record {
  long : length l.block ≡ 128;
  permuted : transposed l.block ≡ first_rows_permuted (transposed l.fn.block) l.i;
}
