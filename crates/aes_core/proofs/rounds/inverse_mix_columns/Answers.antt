-- Mixing after the step before it is mixing back.
use Rattle.std.proofs.Common.{◌≡◌, map, ap, ◌∙◌}
use Rattle.std.specs.Prelude.{bit_xor}
use Rattle.std.specs.Simd.Lanes.{zip2}
use Rattle.aes_core.specs.Field.{times_x}
use Rattle.aes_core.specs.Lanes.{row_on}
use Rattle.aes_core.specs.Steps.{mix_columns}
use Rattle.aes_core.proofs.LaneLemmas.{vector-IsBlock}
use Rattle.aes_core.proofs.ColumnLemmas.{premixed_by_lanes, unmixed_by_lanes}
use Rattle.aes_core.proofs.rounds.inverse_mix_columns.Goals as goal

pub returns : goal.returns
returns c =
    let s = c.args.state in
    let sum : c.xor-sum.result ≡ zip2 bit_xor s (row_on 2 s) = c.xor-sum.ensures ∙ ap (λ v. zip2 bit_xor s v) c.second_row_on.ensures in
    let once = c.times_x.ensures ∙ ap (λ v. map times_x v) sum in
    let twice = c.times_x-2.ensures ∙ ap (λ v. map times_x v) once in
    let before = c.xor.ensures ∙ ap (λ v. zip2 bit_xor s v) twice ∙ premixed_by_lanes s c.fits-state.0 in
    c.mix_columns.ensures ∙ ap mix_columns before ∙ unmixed_by_lanes s (vector-IsBlock s c.fits-state.0 c.fits-state.1)
