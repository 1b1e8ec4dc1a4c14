-- Each sum is that of its lanes.
use Rattle.std.proofs.Common.{◌-◌, List, ℕ, ap, ◌∙◌}
use Rattle.std.specs.Prelude.{bit_xor}
use Rattle.std.specs.Simd.Lanes.{zip2}
use Rattle.aes_core.specs.Basis.{in_basis, forward_state, forward_key}
use Rattle.aes_core.specs.UnshiftedRows.{rotated_rows, unshifted_row}
use Rattle.aes_core.specs.declared.shuffle_tables.TheConstants.{ONCE_OF_FIRST, ONCE_OF_SECOND, TWICE_OF_FIRST, TWICE_OF_SECOND}
use Rattle.aes_core.proofs.BasisTables.{once_byte, twice_byte, finds_once, finds_twice}
use Rattle.aes_core.proofs.RowLemmas.{rotated_rows-IsBlock}
use Rattle.aes_core.proofs.ForwardRounds.{found_by_parts, round_on}
use Rattle.aes_core.proofs.basis.forward_round.Goals as goal

pub returns : goal.returns
unfolding forward_state forward_key
returns c s k sb kb state key =
    let p : ℕ = c.args.deferred in
    let t : List ℕ = rotated_rows (4 - p) s in
    let tb = rotated_rows-IsBlock (4 - p) s sb in
    let once = found_by_parts in_basis once_byte ONCE_OF_FIRST ONCE_OF_SECOND t c.args.state _ _ _ tb finds_once state c.inverse_parts.ensures.first c.inverse_parts.ensures.second c.by_parts-once.ensures in
    let twice = found_by_parts in_basis twice_byte TWICE_OF_FIRST TWICE_OF_SECOND t c.args.state _ _ _ tb finds_twice state c.inverse_parts.ensures.first c.inverse_parts.ensures.second c.by_parts-twice.ensures in
    let next = c.next_unshifted_row.ensures ∙ ap (λ v. unshifted_row 1 p v) once in
    let sum = c.xor-sum.ensures ∙ (λ i. zip2 bit_xor (twice i) (next i)) in
    let before = c.third_unshifted_row.ensures ∙ ap (λ v. unshifted_row 3 p v) once in
    let keyed = c.xor-keyed.ensures ∙ (λ i. zip2 bit_xor (before i) (key i)) in
    let inner = c.xor.ensures ∙ (λ i. zip2 bit_xor (keyed i) (sum i)) in
    let after = c.next_unshifted_row-2.ensures ∙ ap (λ v. unshifted_row 1 p v) sum in
    c.xor-2.ensures ∙ (λ i. zip2 bit_xor (inner i) (after i)) ∙ round_on p c.requires s k sb kb
