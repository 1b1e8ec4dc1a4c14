use Rattle.std.proofs.Common.{refl}
use Rattle.argon_kdf.specs.Blocks.{joined}
use Rattle.argon_kdf.proofs.block.join.Goals as goal

pub returns : goal.returns
unfolding joined
returns c =
    rw (c.xor_into.ensures, c.permute_columns.ensures, c.permute_rows.ensures, c.write_xor.ensures) refl
