-- Each of the 16 bytes is a sum of neighbours in its column.
use Rattle.std.proofs.Common.{◌≡◌, map, ap, ◌∙◌}
use Rattle.std.specs.Prelude.{bit_xor}
use Rattle.std.specs.Simd.Lanes.{zip2}
use Rattle.aes_core.specs.Field.{times_x}
use Rattle.aes_core.specs.Lanes.{row_on}
use Rattle.aes_core.proofs.LaneLemmas.{vector-IsBlock}
use Rattle.aes_core.proofs.ColumnLemmas.{mixed_by_lanes}
use Rattle.aes_core.proofs.rounds.mix_columns.Goals as goal

pub returns : goal.returns
returns c =
    let s = c.args.state in
    let sum : c.xor-sum.result ≡ zip2 bit_xor s (row_on 1 s) = c.xor-sum.ensures ∙ ap (λ v. zip2 bit_xor s v) c.next_row-next.ensures in
    let doubled = c.times_x.ensures ∙ ap (λ v. map times_x v) sum in
    let first = c.xor.ensures ∙ (λ i. zip2 bit_xor (doubled i) (c.next_row-next.ensures i)) in
    let second = c.second_row_on.ensures ∙ ap (λ v. row_on 2 v) sum in
    c.xor-2.ensures ∙ (λ i. zip2 bit_xor (first i) (second i)) ∙ mixed_by_lanes s (vector-IsBlock s c.fits-state.0 c.fits-state.1)
