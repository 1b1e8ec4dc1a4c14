-- The bytes leave the basis, and two rotations more make the inverse shift whole.
use Rattle.std.proofs.Common.{ap, ◌∙◌}
use Rattle.aes_core.specs.Substitution.{inverse_substitute_byte}
use Rattle.aes_core.specs.Basis.{in_inverse_basis, inverse_state}
use Rattle.aes_core.specs.UnshiftedRows.{rotated_rows}
use Rattle.aes_core.specs.declared.shuffle_tables.TheConstants.{INVERSE_BYTE_OF_FIRST, INVERSE_BYTE_OF_SECOND}
use Rattle.aes_core.proofs.BasisTables.{finds_inverse_byte}
use Rattle.aes_core.proofs.RowLemmas.{rotated_rows-IsBlock}
use Rattle.aes_core.proofs.ForwardRounds.{found_by_parts}
use Rattle.aes_core.proofs.InverseRounds.{last_inverse_shift}
use Rattle.aes_core.proofs.basis.last_inverse_round.Goals as goal

pub returns : goal.returns
unfolding inverse_state
returns c s sb state =
    let bytes = found_by_parts in_inverse_basis inverse_substitute_byte INVERSE_BYTE_OF_FIRST INVERSE_BYTE_OF_SECOND (rotated_rows 1 s) c.args.state _ _ _ (rotated_rows-IsBlock 1 s sb) finds_inverse_byte state c.inverse_parts.ensures.first c.inverse_parts.ensures.second c.by_parts.ensures in
    c.rotate_rows.ensures ∙ ap (λ v. rotated_rows 2 v) bytes ∙ last_inverse_shift s
