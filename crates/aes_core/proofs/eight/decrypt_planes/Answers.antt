-- Each pass of the loop undoes a round of each block.
use Rattle.std.proofs.Common.{◌≡◌, ℕ, ◌+◌, ◌-◌, ◌%◌, ◌<◌, List, refl, ap, ◌∙◌, arith, add-one}
use Rattle.std.specs.Prelude.{bit_xor}
use Rattle.std.specs.Simd.Lanes.{zip2}
use Rattle.aes_core.specs.Lanes.{round_key}
use Rattle.aes_core.specs.Laws.{IsBlock}
use Rattle.aes_core.specs.Steps.{inverse_substitute_bytes, inverse_shift_rows, inverse_mix_columns}
use Rattle.aes_core.specs.UnshiftedRows.{rotated_rows, unshifted_inverse_mix}
use Rattle.aes_core.specs.KeyPlanes.{common_key}
use Rattle.aes_core.specs.Planes.{planes, AllBlocks}
use Rattle.aes_core.specs.MiddleRounds.{state_map, plus_constant, inverse_rounds_from, inverse_middle_rounds}
use Rattle.aes_core.proofs.InverseLemmas.{inverse_substitute_bytes-IsBlock, inverse_shift_rows-IsBlock}
use Rattle.aes_core.proofs.LaneLemmas.{add_by_lanes}
use Rattle.aes_core.proofs.KeyPlaneLemmas.{common_key-IsBlock}
use Rattle.aes_core.proofs.PlaneSteps.{round_key-IsBlock, xor-IsBlock}
use Rattle.aes_core.proofs.RowLemmas.{rotated_rows-IsBlock}
use Rattle.aes_core.proofs.MiddleLemmas.{inverse_rounds_from-IsBlock, rotated_constant-IsBlock}
use Rattle.aes_core.proofs.UnshiftedInverse.{unshifted_inverse_round_on, rotated_back}
use Rattle.aes_core.proofs.eight.decrypt_planes.Goals as goal

pub rounds-init : goal.rounds-init
unfolding inverse_rounds_from
rounds-init c w s bytes blocks keys is = is ∙ (λ i. planes (λ b. rotated_back (s b) (blocks b).size i))

pub rounds-preserved : goal.rounds-preserved
unfolding inverse_rounds_from
rounds-preserved c w s bytes blocks keys is =
    let n : ℕ = c.rounds.done in
    let p : ℕ = n % 4 in
    let q : ℕ = (12 - n) % 4 in
    let low : p < 4 = omega arith in
    let back : q ≡ (4 - p) % 4 = omega arith in
    let from : ℕ → List ℕ = λ b. rotated_rows 2 (state_map plus_constant (s b)) in
    let now : ℕ → List ℕ = λ b. inverse_rounds_from w (from b) n in
    let now_blocks : AllBlocks now = λ b. inverse_rounds_from-IsBlock w (from b) n bytes (rotated_constant-IsBlock (s b) (blocks b)) in
    let unshifted : ℕ → List ℕ = λ b. rotated_rows (p + 2) (now b) in
    let unshifted_blocks : AllBlocks unshifted = λ b. rotated_rows-IsBlock (p + 2) (now b) (now_blocks b) in
    let plain : ℕ → List ℕ = λ b. inverse_substitute_bytes (unshifted b) in
    let plain_blocks : AllBlocks plain = λ b. inverse_substitute_bytes-IsBlock (unshifted b) (unshifted_blocks b) in
    let substituted = c.inverse_substitute_planes.ensures unshifted unshifted_blocks (c.rounds.invariant w s bytes blocks keys is) in
    let key : List ℕ = common_key q (round_key w (12 - n + 1)) in
    let key_block : IsBlock key = common_key-IsBlock q (round_key w (12 - n + 1)) (round_key-IsBlock w (12 - n + 1) bytes) in
    let keyed = c.add_plane_key-keyed.ensures w plain bytes plain_blocks keys substituted in
    let mixed = c.inverse_mix_plane_columns-state.ensures (λ b. zip2 bit_xor (plain b) key) (λ b. xor-IsBlock (plain b) key (plain_blocks b) key_block) keyed in
    let deferral : (p + 1) % 4 ≡ (n + 1) % 4 = omega arith in
    let round : 12 - n + 1 ≡ 13 - n = omega arith in
    mixed
    ∙ (λ i. planes (λ b. unshifted_inverse_mix (back i) (zip2 bit_xor (plain b) (common_key (back i) (round_key w (round i))))))
    ∙ (λ i. planes (λ b. unshifted_inverse_round_on p low (now b) (round_key w (13 - n)) (now_blocks b) (round_key-IsBlock w (13 - n) bytes) i))
    ∙ (λ i. planes (λ b. state_map plus_constant (rotated_rows (deferral i + 2) (inverse_mix_columns (add_by_lanes w (13 - n) (inverse_substitute_bytes (inverse_shift_rows (now b))) (inverse_substitute_bytes-IsBlock (inverse_shift_rows (now b)) (inverse_shift_rows-IsBlock (now b) (now_blocks b))).size i)))))
    ∙ rw add-one refl

pub returns : goal.returns
unfolding inverse_middle_rounds
returns c w s bytes blocks keys is =
    let done : c.rounds.done ≡ 13 = omega arith in
    let from : ℕ → List ℕ = λ b. rotated_rows 2 (state_map plus_constant (s b)) in
    let state = c.rounds.invariant w s bytes blocks keys is ∙ ap (λ n. planes (λ b. state_map plus_constant (rotated_rows (n % 4 + 2) (inverse_rounds_from w (from b) n)))) done in
    c.inverse_substitute_planes-2.ensures (λ b. rotated_rows 3 (inverse_rounds_from w (from b) 13)) (λ b. rotated_rows-IsBlock 3 (inverse_rounds_from w (from b) 13) (inverse_rounds_from-IsBlock w (from b) 13 bytes (rotated_constant-IsBlock (s b) (blocks b)))) state
