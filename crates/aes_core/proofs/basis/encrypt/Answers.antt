-- Each pass of the loop is a round.
use Rattle.std.proofs.Common.{◌≡◌, ℕ, ◌+◌, ◌%◌, List, map, refl, ap, ◌∙◌, arith, add-one}
use Rattle.aes_core.specs.Aes.{state_after, encrypted_with}
use Rattle.aes_core.specs.Laws.{IsBlock}
use Rattle.aes_core.specs.Lanes.{round_key}
use Rattle.aes_core.specs.Steps.{substitute_bytes, shift_rows, mix_columns, add_round_key}
use Rattle.aes_core.specs.Basis.{in_basis, forward_state}
use Rattle.aes_core.proofs.LaneLemmas.{vector-IsBlock, add_by_lanes}
use Rattle.aes_core.proofs.PlaneSteps.{round_key-IsBlock}
use Rattle.aes_core.proofs.PreparedKeys.{forward_key_at}
use Rattle.aes_core.proofs.RoundLemmas.{state_after-IsBlock}
use Rattle.aes_core.proofs.ForwardRounds.{forward_state_at_first}
use Rattle.aes_core.proofs.basis.encrypt.Goals as goal

pub rounds-init : goal.rounds-init
unfolding in_basis state_after add_round_key
rounds-init c = c.by_halves-state.ensures ∙ ap (map in_basis) c.add_round_key.ensures ∙ forward_state_at_first (add_round_key c.args.keys.now 0 c.args.block) refl

pub rounds-preserved : goal.rounds-preserved
unfolding state_after mix_columns
rounds-preserved c =
    let w : List ℕ = c.args.keys.now in
    let n : ℕ = c.rounds.done in
    let now : List ℕ = state_after w c.args.block n in
    let block : IsBlock c.args.block = vector-IsBlock c.args.block c.fits-block.0 c.fits-block.1 in
    let place : (n % 4 + 1) % 4 ≡ (n + 1) % 4 = omega arith in
    let key = c.prepared_key.ensures ∙ forward_key_at w c.args.forward.now n (omega arith) c.requires in
    let next = add_by_lanes w (n + 1) (mix_columns (shift_rows (substitute_bytes now))) refl in
    c.forward_round-state.ensures now (round_key w (n + 1)) (state_after-IsBlock w c.args.block n c.fits-keys block) (round_key-IsBlock w (n + 1) c.fits-keys) c.rounds.invariant key
    ∙ (λ i. forward_state (place i) (next i)) ∙ rw add-one refl

pub returns : goal.returns
unfolding encrypted_with
returns c =
    let w : List ℕ = c.args.keys.now in
    let done : c.rounds.done ≡ 13 = omega arith in
    let block : IsBlock c.args.block = vector-IsBlock c.args.block c.fits-block.0 c.fits-block.1 in
    let state = c.rounds.invariant ∙ ap (λ n. forward_state (n % 4) (state_after w c.args.block n)) done in
    c.add_round_key-2.ensures ∙ ap (λ s. add_round_key w 14 s) (c.last_round.ensures (state_after w c.args.block 13) (state_after-IsBlock w c.args.block 13 c.fits-keys block) state)
