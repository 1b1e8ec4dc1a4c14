-- Each sum is that of its lanes.
use Rattle.std.proofs.Common.{◌-◌, ◌%◌, List, ℕ, ap, ◌∙◌}
use Rattle.std.specs.Prelude.{bit_xor}
use Rattle.std.specs.Simd.Lanes.{zip2}
use Rattle.aes_core.specs.Basis.{in_inverse_basis, inverse_state, inverse_key}
use Rattle.aes_core.specs.UnshiftedRows.{rotated_rows, unshifted_row}
use Rattle.aes_core.specs.declared.shuffle_tables.TheConstants.{BY_NINE_OF_FIRST, BY_NINE_OF_SECOND, BY_THIRTEEN_OF_FIRST, BY_THIRTEEN_OF_SECOND, BY_ELEVEN_OF_FIRST, BY_ELEVEN_OF_SECOND, BY_FOURTEEN_OF_FIRST, BY_FOURTEEN_OF_SECOND}
use Rattle.aes_core.proofs.BasisTables.{inverse_product, finds_by_9, finds_by_13, finds_by_11, finds_by_14}
use Rattle.aes_core.proofs.RowLemmas.{rotated_rows-IsBlock}
use Rattle.aes_core.proofs.ForwardRounds.{found_by_parts}
use Rattle.aes_core.proofs.InverseRounds.{inverse_round_on}
use Rattle.aes_core.proofs.basis.inverse_round.Goals as goal

pub returns : goal.returns
unfolding inverse_state inverse_key
returns c s k sb kb state key =
    let p : ℕ = c.args.deferred in
    let q : ℕ = (6 - p) % 4 in
    let t : List ℕ = rotated_rows p s in
    let tb = rotated_rows-IsBlock p s sb in
    let parts = c.inverse_parts.ensures in
    let by_9 = found_by_parts in_inverse_basis (inverse_product 0x09) BY_NINE_OF_FIRST BY_NINE_OF_SECOND t c.args.state _ _ _ tb finds_by_9 state parts.first parts.second c.by_parts-by_9.ensures in
    let by_13 = found_by_parts in_inverse_basis (inverse_product 0x0d) BY_THIRTEEN_OF_FIRST BY_THIRTEEN_OF_SECOND t c.args.state _ _ _ tb finds_by_13 state parts.first parts.second c.by_parts-by_13.ensures in
    let by_11 = found_by_parts in_inverse_basis (inverse_product 0x0b) BY_ELEVEN_OF_FIRST BY_ELEVEN_OF_SECOND t c.args.state _ _ _ tb finds_by_11 state parts.first parts.second c.by_parts-by_11.ensures in
    let by_14 = found_by_parts in_inverse_basis (inverse_product 0x0e) BY_FOURTEEN_OF_FIRST BY_FOURTEEN_OF_SECOND t c.args.state _ _ _ tb finds_by_14 state parts.first parts.second c.by_parts-by_14.ensures in
    let one = c.next_unshifted_row.ensures ∙ ap (λ v. unshifted_row 1 q v) by_9 in
    let two = c.xor-two.ensures ∙ (λ i. zip2 bit_xor (by_13 i) (one i)) in
    let two_below = c.next_unshifted_row-2.ensures ∙ ap (λ v. unshifted_row 1 q v) two in
    let three = c.xor-three.ensures ∙ (λ i. zip2 bit_xor (by_11 i) (two_below i)) in
    let three_below = c.next_unshifted_row-3.ensures ∙ ap (λ v. unshifted_row 1 q v) three in
    let keyed = c.xor.ensures ∙ (λ i. zip2 bit_xor (by_14 i) (key i)) in
    c.xor-2.ensures ∙ (λ i. zip2 bit_xor (keyed i) (three_below i)) ∙ inverse_round_on p c.requires s k sb kb
