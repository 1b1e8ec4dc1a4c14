-- The lanes are changed, and then rotated.
use Rattle.std.proofs.Common.{◌-◌, ap, ◌∙◌, arith}
use Rattle.std.proofs.lemmas.Simd.{zip2_splat}
use Rattle.std.specs.Prelude.{bit_xor}
use Rattle.aes_core.specs.UnshiftedRows.{rotated_rows}
use Rattle.aes_core.specs.KeyPlanes.{common_key}
use Rattle.aes_core.specs.declared.shuffle_tables.TheConstants.{AFFINE_CONSTANT}
use Rattle.aes_core.proofs.RowLemmas.{rotated_rows-map}
use Rattle.aes_core.proofs.plane_rounds.common_key.Goals as goal

pub returns : goal.returns
unfolding common_key
returns c =
    c.rotate_rows.ensures ∙ ap (λ v. rotated_rows (3 - c.args.deferred) v) (c.xor-with_constant.ensures ∙ zip2_splat bit_xor c.args.key 16 AFFINE_CONSTANT c.fits-key.0)
    ∙ rotated_rows-map (λ b. bit_xor b AFFINE_CONSTANT) (3 - c.args.deferred) (omega arith) c.args.key c.fits-key.0
