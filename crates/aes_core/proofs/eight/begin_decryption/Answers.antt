-- Lane by lane.
use Rattle.std.proofs.Common.{List, ℕ, replicate, refl, ap, ◌∙◌}
use Rattle.std.proofs.lemmas.Simd.{zip2_splat}
use Rattle.std.specs.Prelude.{bit_xor}
use Rattle.std.specs.Simd.Lanes.{zip2}
use Rattle.aes_core.specs.Steps.{add_round_key}
use Rattle.aes_core.specs.UnshiftedRows.{rotated_rows}
use Rattle.aes_core.specs.MiddleRounds.{plus_constant}
use Rattle.aes_core.specs.declared.shuffle_tables.TheConstants.{AFFINE_CONSTANT}
use Rattle.aes_core.proofs.UnshiftedRounds.{map_is_state_map}
use Rattle.aes_core.proofs.eight.begin_decryption.Goals as goal

pub returns : goal.returns
unfolding plus_constant rotated_rows
returns c =
    let first : List ℕ = rotated_rows 2 (add_round_key c.args.keys.now 14 c.args.block) in
    let rotated = c.rotate_rows-rotated.ensures ∙ ap (λ s. rotated_rows 2 s) c.add_round_key.ensures in
    c.xor.ensures ∙ (λ i. zip2 bit_xor (rotated i) (replicate 16 AFFINE_CONSTANT)) ∙ zip2_splat bit_xor first 16 AFFINE_CONSTANT refl ∙ map_is_state_map plus_constant first refl
