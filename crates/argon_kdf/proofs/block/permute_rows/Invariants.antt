use Rattle.std.proofs.Common.{◌≡◌}
use Rattle.argon_kdf.specs.Blocks.{first_rows_permuted}
use Rattle.argon_kdf.proofs.block.permute_rows.Given as goal

abbrev pub invariant-rows : goal.invariant-rows
invariant-rows l = l.block ≡ first_rows_permuted l.fn.block l.i
