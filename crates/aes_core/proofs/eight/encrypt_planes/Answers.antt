-- Each pass of the loop is a round of each block.
use Rattle.std.proofs.Common.{◌≡◌, ℕ, ◌+◌, ◌-◌, ◌%◌, ◌<◌, List, refl, ap, ◌∙◌, arith, add-one}
use Rattle.aes_core.specs.Lanes.{round_key}
use Rattle.aes_core.specs.Steps.{substitute_bytes, shift_rows, mix_columns}
use Rattle.aes_core.specs.UnshiftedRows.{rotated_rows, unshifted_mix}
use Rattle.aes_core.specs.Planes.{planes, AllBlocks}
use Rattle.aes_core.specs.MiddleRounds.{state_map, substitute_without_constant, rounds_from, middle_rounds}
use Rattle.aes_core.proofs.LaneLemmas.{add_by_lanes}
use Rattle.aes_core.proofs.PlaneSteps.{state_map-IsBlock, unshifted_mix-IsBlock}
use Rattle.aes_core.proofs.RowLemmas.{rotated_rows-IsBlock, rotated_four_times}
use Rattle.aes_core.proofs.MiddleLemmas.{rounds_from-IsBlock}
use Rattle.aes_core.proofs.UnshiftedRounds.{substitute_without_constant-lt, unshifted_round_on}
use Rattle.aes_core.proofs.eight.encrypt_planes.Goals as goal

pub rounds-init : goal.rounds-init
unfolding rounds_from
rounds-init c w s bytes blocks keys is = is ∙ (λ i. planes (λ b. rotated_four_times (s b) (blocks b).size i))

pub rounds-preserved : goal.rounds-preserved
unfolding rounds_from mix_columns round_key
rounds-preserved c w s bytes blocks keys is =
    let n : ℕ = c.rounds.done in
    let p : ℕ = n % 4 in
    let low : p < 4 = omega arith in
    let now : ℕ → List ℕ = λ b. rounds_from w (s b) n in
    let now_blocks : AllBlocks now = λ b. rounds_from-IsBlock w (s b) n bytes (blocks b) in
    let unshifted : ℕ → List ℕ = λ b. rotated_rows (4 - p) (now b) in
    let unshifted_blocks : AllBlocks unshifted = λ b. rotated_rows-IsBlock (4 - p) (now b) (now_blocks b) in
    let substituted : ℕ → List ℕ = λ b. state_map substitute_without_constant (unshifted b) in
    let substituted_blocks : AllBlocks substituted = λ b. state_map-IsBlock substitute_without_constant substitute_without_constant-lt (unshifted b) (unshifted_blocks b) in
    let substituted_is = c.substitute_planes.ensures unshifted unshifted_blocks (c.rounds.invariant w s bytes blocks keys is) in
    let mixed_is = c.mix_plane_columns-mixed.ensures substituted substituted_blocks substituted_is in
    let deferral : (p + 1) % 4 ≡ (n + 1) % 4 = omega arith in
    c.add_plane_key-state.ensures w (λ b. unshifted_mix p (substituted b)) bytes (λ b. unshifted_mix-IsBlock p (substituted b) (substituted_blocks b)) keys mixed_is
    ∙ (λ i. planes (λ b. unshifted_round_on p low (now b) (round_key w (n + 1)) (now_blocks b) refl i))
    ∙ (λ i. planes (λ b. rotated_rows (4 - deferral i) (add_by_lanes w (n + 1) (mix_columns (shift_rows (substitute_bytes (now b)))) refl i)))
    ∙ rw add-one refl

pub returns : goal.returns
unfolding middle_rounds
returns c w s bytes blocks keys is =
    let done : c.rounds.done ≡ 13 = omega arith in
    let state = c.rounds.invariant w s bytes blocks keys is ∙ ap (λ n. planes (λ b. rotated_rows (4 - n % 4) (rounds_from w (s b) n))) done in
    c.substitute_planes-2.ensures (λ b. rotated_rows 3 (rounds_from w (s b) 13)) (λ b. rotated_rows-IsBlock 3 (rounds_from w (s b) 13) (rounds_from-IsBlock w (s b) 13 bytes (blocks b))) state
