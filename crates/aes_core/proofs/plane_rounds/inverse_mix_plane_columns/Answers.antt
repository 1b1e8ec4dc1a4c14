-- On each block the step before mixing is that of its lanes.
use Rattle.std.proofs.Common.{ℕ, List, map}
use Rattle.std.specs.Prelude.{bit_xor}
use Rattle.std.specs.Simd.Lanes.{zip2}
use Rattle.aes_core.specs.Field.{times_x}
use Rattle.aes_core.specs.UnshiftedRows.{unshifted_row, unshifted_inverse_mix}
use Rattle.aes_core.specs.Planes.{AllBlocks}
use Rattle.aes_core.proofs.PlaneSteps.{unshifted_row-IsBlock, xor-IsBlock, times_x-IsBlock}
use Rattle.aes_core.proofs.plane_rounds.inverse_mix_plane_columns.Goals as goal

pub returns : goal.returns
unfolding unshifted_inverse_mix
returns c s blocks is =
    let p : ℕ = c.args.deferred in
    let second : ℕ → List ℕ = λ b. unshifted_row 2 p (s b) in
    let sum : ℕ → List ℕ = λ b. zip2 bit_xor (s b) (second b) in
    let product : ℕ → List ℕ = λ b. map times_x (map times_x (sum b)) in
    let second_blocks : AllBlocks second = λ b. unshifted_row-IsBlock 2 p (s b) (blocks b) in
    let sum_blocks : AllBlocks sum = λ b. xor-IsBlock (s b) (second b) (blocks b) (second_blocks b) in
    let once_blocks : AllBlocks (λ b. map times_x (sum b)) = λ b. times_x-IsBlock (sum b) (sum_blocks b) in
    let product_blocks : AllBlocks product = λ b. times_x-IsBlock (map times_x (sum b)) (once_blocks b) in
    let sum_is = c.xor_planes-sum.ensures s second blocks second_blocks is (c.second_plane_rows.ensures s is) in
    let once_is = c.planes_times_x.ensures sum sum_blocks sum_is in
    let product_is = c.planes_times_x-2.ensures (λ b. map times_x (sum b)) once_blocks once_is in
    let before_is = c.xor_planes-before.ensures s product blocks product_blocks is product_is in
    c.mix_plane_columns.ensures (λ b. zip2 bit_xor (s b) (product b)) (λ b. xor-IsBlock (s b) (product b) (blocks b) (product_blocks b)) before_is
