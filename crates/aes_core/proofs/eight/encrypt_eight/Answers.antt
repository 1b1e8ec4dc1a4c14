-- The first states are the square of their bits, which is transposed before the rounds and after them.
use Rattle.std.proofs.Common.{◌≡◌, List, ℕ, [], ◌∷◌, get_or, refl, ap, ◌∙◌, arith}
use Rattle.aes_core.specs.Aes.{encrypted_with}
use Rattle.aes_core.specs.MiddleRounds.{state_map, plus_constant, middle_rounds}
use Rattle.aes_core.specs.Steps.{add_round_key}
use Rattle.aes_core.specs.UnshiftedRows.{rotated_rows}
use Rattle.aes_core.proofs.MiddleLemmas.{middle_rounds-IsBlock, encryption_whole}
use Rattle.aes_core.proofs.SquareLemmas.{by_planes, of_eight}
use Rattle.aes_core.proofs.eight.encrypt_eight.Goals as goal

pub returns : goal.returns
returns c b low =
    let w : List ℕ = c.args.keys.now in
    let first_states : List (List ℕ) = c.add_round_key.result ∷ c.add_round_key-2.result ∷ c.add_round_key-3.result ∷ c.add_round_key-4.result ∷ c.add_round_key-5.result ∷ c.add_round_key-6.result ∷ c.add_round_key-7.result ∷ c.add_round_key-8.result ∷ [] in
    let ended = by_planes (middle_rounds w) first_states c.transpose.result c.encrypt_planes.result c.transpose-2.result refl
    (λ x block. middle_rounds-IsBlock w x c.fits-keys block) c.transpose.ensures.given c.transpose.ensures.turned (λ s blocks is. c.encrypt_planes.ensures w s c.fits-keys blocks c.requires is) c.transpose-2.ensures.turned in
    let one : (x first last block : List ℕ) → first ≡ add_round_key w 0 block → x ≡ middle_rounds w first → last ≡ add_round_key w 14 (rotated_rows 2 (state_map plus_constant x)) → last ≡ encrypted_with w block =
    λ x first last block begins middle ends. ends ∙ ap (λ x. add_round_key w 14 (rotated_rows 2 (state_map plus_constant x))) (middle ∙ ap (middle_rounds w) begins) ∙ encryption_whole w block in
    of_eight (λ b. get_or (c.end_encryption.result ∷ c.end_encryption-2.result ∷ c.end_encryption-3.result ∷ c.end_encryption-4.result ∷ c.end_encryption-5.result ∷ c.end_encryption-6.result ∷ c.end_encryption-7.result ∷ c.end_encryption-8.result ∷ []) b [] ≡ encrypted_with w (get_or c.args.blocks b []))
    (one _ _ _ _ c.add_round_key.ensures (ended 0 (omega arith)) c.end_encryption.ensures)
    (one _ _ _ _ c.add_round_key-2.ensures (ended 1 (omega arith)) c.end_encryption-2.ensures)
    (one _ _ _ _ c.add_round_key-3.ensures (ended 2 (omega arith)) c.end_encryption-3.ensures)
    (one _ _ _ _ c.add_round_key-4.ensures (ended 3 (omega arith)) c.end_encryption-4.ensures)
    (one _ _ _ _ c.add_round_key-5.ensures (ended 4 (omega arith)) c.end_encryption-5.ensures)
    (one _ _ _ _ c.add_round_key-6.ensures (ended 5 (omega arith)) c.end_encryption-6.ensures)
    (one _ _ _ _ c.add_round_key-7.ensures (ended 6 (omega arith)) c.end_encryption-7.ensures)
    (one _ _ _ _ c.add_round_key-8.ensures (ended 7 (omega arith)) c.end_encryption-8.ensures) b low
