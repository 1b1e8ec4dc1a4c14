-- Lane by lane.
use Rattle.std.proofs.Common.{ap, ◌∙◌}
use Rattle.std.proofs.lemmas.Simd.{zip2_splat}
use Rattle.std.specs.Prelude.{bit_xor}
use Rattle.aes_core.specs.Steps.{add_round_key}
use Rattle.aes_core.specs.UnshiftedRows.{rotated_rows}
use Rattle.aes_core.specs.MiddleRounds.{plus_constant}
use Rattle.aes_core.specs.declared.shuffle_tables.TheConstants.{AFFINE_CONSTANT}
use Rattle.aes_core.proofs.UnshiftedRounds.{map_is_state_map}
use Rattle.aes_core.proofs.eight.end_encryption.Goals as goal

pub returns : goal.returns
unfolding plus_constant
returns c =
    let substituted = c.xor-substituted.ensures ∙ zip2_splat bit_xor c.args.block 16 AFFINE_CONSTANT c.fits-block.0 ∙ map_is_state_map plus_constant c.args.block c.fits-block.0 in
    c.add_round_key.ensures ∙ ap (λ s. add_round_key c.args.keys.now 14 s) (c.rotate_rows.ensures ∙ ap (λ s. rotated_rows 2 s) substituted)
