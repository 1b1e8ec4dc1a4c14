-- On each block the sums are those of its lanes.
use Rattle.std.proofs.Common.{ℕ, List, map}
use Rattle.std.specs.Prelude.{bit_xor}
use Rattle.std.specs.Simd.Lanes.{zip2}
use Rattle.aes_core.specs.Field.{times_x}
use Rattle.aes_core.specs.UnshiftedRows.{unshifted_row, unshifted_mix}
use Rattle.aes_core.specs.Planes.{AllBlocks}
use Rattle.aes_core.proofs.PlaneSteps.{unshifted_row-IsBlock, xor-IsBlock, times_x-IsBlock}
use Rattle.aes_core.proofs.plane_rounds.mix_plane_columns.Goals as goal

pub returns : goal.returns
unfolding unshifted_mix
returns c s blocks is =
    let p : ℕ = c.args.deferred in
    let next : ℕ → List ℕ = λ b. unshifted_row 1 p (s b) in
    let sum : ℕ → List ℕ = λ b. zip2 bit_xor (s b) (next b) in
    let first : ℕ → List ℕ = λ b. zip2 bit_xor (map times_x (sum b)) (next b) in
    let next_blocks : AllBlocks next = λ b. unshifted_row-IsBlock 1 p (s b) (blocks b) in
    let sum_blocks : AllBlocks sum = λ b. xor-IsBlock (s b) (next b) (blocks b) (next_blocks b) in
    let product_blocks : AllBlocks (λ b. map times_x (sum b)) = λ b. times_x-IsBlock (sum b) (sum_blocks b) in
    let first_blocks : AllBlocks first = λ b. xor-IsBlock (map times_x (sum b)) (next b) (product_blocks b) (next_blocks b) in
    let next_is = c.next_plane_rows-next.ensures s is in
    let sum_is = c.xor_planes-sum.ensures s next blocks next_blocks is next_is in
    let product_is = c.planes_times_x.ensures sum sum_blocks sum_is in
    let first_is = c.xor_planes-first.ensures (λ b. map times_x (sum b)) next product_blocks next_blocks product_is next_is in
    c.xor_planes.ensures first (λ b. unshifted_row 2 p (sum b)) first_blocks (λ b. unshifted_row-IsBlock 2 p (sum b) (sum_blocks b)) first_is (c.second_plane_rows.ensures sum sum_is)
