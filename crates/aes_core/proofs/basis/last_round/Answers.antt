-- The bytes leave the basis, and two rotations more make the shift whole.
use Rattle.std.proofs.Common.{◌≡◌, List, ℕ, map, replicate, refl, ap, ◌∙◌}
use Rattle.std.proofs.lemmas.Simd.{map-map, zip2_splat}
use Rattle.std.specs.Prelude.{bit_xor}
use Rattle.std.specs.Simd.Lanes.{zip2}
use Rattle.aes_core.specs.Substitution.{substitute_byte}
use Rattle.aes_core.specs.Basis.{in_basis, forward_state}
use Rattle.aes_core.specs.UnshiftedRows.{rotated_rows}
use Rattle.aes_core.specs.declared.shuffle_tables.TheConstants.{AFFINE_CONSTANT, BYTE_OF_FIRST, BYTE_OF_SECOND}
use Rattle.aes_core.proofs.BasisTables.{finds_byte}
use Rattle.aes_core.proofs.LinearLemmas.{xor_twice}
use Rattle.aes_core.proofs.RowLemmas.{rotated_rows-IsBlock}
use Rattle.aes_core.proofs.ForwardRounds.{found_by_parts, last_shift}
use Rattle.aes_core.proofs.basis.last_round.Goals as goal

abbrev without_constant : ℕ → ℕ
without_constant b = bit_xor (substitute_byte b) AFFINE_CONSTANT

pub returns : goal.returns
unfolding forward_state rotated_rows
returns c s sb state =
    let t : List ℕ = rotated_rows 3 s in
    let linear : c.by_parts-linear.result ≡ map without_constant t =
    found_by_parts in_basis without_constant BYTE_OF_FIRST BYTE_OF_SECOND t c.args.state _ _ _ (rotated_rows-IsBlock 3 s sb) finds_byte state c.inverse_parts.ensures.first c.inverse_parts.ensures.second c.by_parts-linear.ensures in
    let bytes = c.xor.ensures ∙ (λ i. zip2 bit_xor (linear i) (replicate 16 AFFINE_CONSTANT)) ∙ zip2_splat bit_xor (map without_constant t) 16 AFFINE_CONSTANT refl
    ∙ map-map (λ b. bit_xor b AFFINE_CONSTANT) without_constant t ∙ (λ i. map (λ b. xor_twice (substitute_byte b) AFFINE_CONSTANT i) t) in
    c.rotate_rows.ensures ∙ ap (λ v. rotated_rows 2 v) bytes ∙ last_shift s
