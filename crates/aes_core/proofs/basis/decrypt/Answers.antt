-- Each pass of the loop undoes a round.
use Rattle.std.proofs.Common.{◌≡◌, ℕ, ◌+◌, ◌-◌, ◌%◌, List, map, refl, ap, ◌∙◌, arith, add-one}
use Rattle.aes_core.specs.Laws.{IsBlock}
use Rattle.aes_core.specs.Lanes.{round_key}
use Rattle.aes_core.specs.Steps.{inverse_substitute_bytes, inverse_shift_rows, inverse_mix_columns, add_round_key}
use Rattle.aes_core.specs.Basis.{in_inverse_basis, inverse_state}
use Rattle.aes_core.proofs.LaneLemmas.{vector-IsBlock, add_by_lanes}
use Rattle.aes_core.proofs.PlaneSteps.{round_key-IsBlock}
use Rattle.aes_core.proofs.PreparedKeys.{inverse_key_at}
use Rattle.aes_core.proofs.UndoneLemmas.{undone_after, undone_after-IsBlock, undone_whole}
use Rattle.aes_core.proofs.InverseRounds.{inverse_state_at_first}
use Rattle.aes_core.proofs.basis.decrypt.Goals as goal

pub rounds-init : goal.rounds-init
unfolding in_inverse_basis undone_after add_round_key
rounds-init c = c.by_halves-state.ensures ∙ ap (map in_inverse_basis) c.add_round_key.ensures ∙ inverse_state_at_first (add_round_key c.args.keys.now 14 c.args.block) refl

pub rounds-preserved : goal.rounds-preserved
unfolding undone_after inverse_substitute_bytes
rounds-preserved c =
    let w : List ℕ = c.args.keys.now in
    let n : ℕ = c.rounds.done in
    let now : List ℕ = undone_after w c.args.block n in
    let block : IsBlock c.args.block = vector-IsBlock c.args.block c.fits-block.0 c.fits-block.1 in
    let place : (n % 4 + 1) % 4 ≡ (n + 1) % 4 = omega arith in
    let key = c.prepared_key.ensures ∙ inverse_key_at w c.args.inverse.now n (omega arith) c.requires in
    let next = add_by_lanes w (13 - n) (inverse_substitute_bytes (inverse_shift_rows now)) refl in
    c.inverse_round-state.ensures now (round_key w (13 - n)) (undone_after-IsBlock w c.args.block n c.fits-keys block) (round_key-IsBlock w (13 - n) c.fits-keys) c.rounds.invariant key
    ∙ (λ i. inverse_state (place i) (inverse_mix_columns (next i))) ∙ rw add-one refl

pub returns : goal.returns
returns c =
    let w : List ℕ = c.args.keys.now in
    let done : c.rounds.done ≡ 13 = omega arith in
    let block : IsBlock c.args.block = vector-IsBlock c.args.block c.fits-block.0 c.fits-block.1 in
    let state = c.rounds.invariant ∙ ap (λ n. inverse_state (n % 4) (undone_after w c.args.block n)) done in
    c.add_round_key-2.ensures
    ∙ ap (λ s. add_round_key w 0 s) (c.last_inverse_round.ensures (undone_after w c.args.block 13) (undone_after-IsBlock w c.args.block 13 c.fits-keys block) state)
    ∙ undone_whole w c.args.block
