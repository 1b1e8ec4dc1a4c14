-- The lanes are changed, and then rotated.
use Rattle.std.proofs.Common.{◌+◌, ◌%◌, map, refl, ap, ◌∙◌, arith}
use Rattle.aes_core.specs.Steps.{inverse_mix_columns}
use Rattle.aes_core.specs.Basis.{in_inverse_basis, inverse_key}
use Rattle.aes_core.specs.UnshiftedRows.{rotated_rows}
use Rattle.aes_core.proofs.RowLemmas.{rotated_rows-map}
use Rattle.aes_core.proofs.basis.inverse_key.Goals as goal

pub returns : goal.returns
unfolding in_inverse_basis inverse_key inverse_mix_columns
returns c =
    let based = c.by_halves.ensures ∙ ap (map in_inverse_basis) c.inverse_mix_columns-mixed.ensures in
    c.rotate_rows.ensures ∙ ap (λ v. rotated_rows ((c.args.deferred + 1) % 4) v) based
    ∙ rotated_rows-map in_inverse_basis ((c.args.deferred + 1) % 4) (omega arith) (inverse_mix_columns c.args.key) refl
