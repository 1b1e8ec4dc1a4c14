-- The lanes are changed, and then rotated.
use Rattle.std.proofs.Common.{◌-◌, map, ap, ◌∙◌, arith}
use Rattle.std.proofs.lemmas.Simd.{map-map, zip2_splat}
use Rattle.std.specs.Prelude.{bit_xor}
use Rattle.aes_core.specs.Basis.{in_basis, forward_key}
use Rattle.aes_core.specs.UnshiftedRows.{rotated_rows}
use Rattle.aes_core.specs.declared.shuffle_tables.TheConstants.{AFFINE_CONSTANT}
use Rattle.aes_core.proofs.RowLemmas.{rotated_rows-map}
use Rattle.aes_core.proofs.basis.forward_key.Goals as goal

pub returns : goal.returns
unfolding in_basis forward_key
returns c =
    let with_constant = c.xor-with_constant.ensures ∙ zip2_splat bit_xor c.args.key 16 AFFINE_CONSTANT c.fits-key.0 in
    let based = c.by_halves.ensures ∙ ap (map in_basis) with_constant ∙ map-map in_basis (λ b. bit_xor b AFFINE_CONSTANT) c.args.key in
    c.rotate_rows.ensures ∙ ap (λ v. rotated_rows (3 - c.args.deferred) v) based
    ∙ rotated_rows-map (λ b. in_basis (bit_xor b AFFINE_CONSTANT)) (3 - c.args.deferred) (omega arith) c.args.key c.fits-key.0
