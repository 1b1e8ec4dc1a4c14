-- The first states are the square of their bits, which is transposed before the rounds and after them.
use Rattle.std.proofs.Common.{◌≡◌, List, ℕ, [], ◌∷◌, get_or, refl, ap, ◌∙◌, arith}
use Rattle.aes_core.specs.Aes.{decrypted_with}
use Rattle.aes_core.specs.MiddleRounds.{state_map, plus_constant, inverse_middle_rounds}
use Rattle.aes_core.specs.Steps.{add_round_key}
use Rattle.aes_core.specs.UnshiftedRows.{rotated_rows}
use Rattle.aes_core.proofs.MiddleLemmas.{inverse_middle_rounds-IsBlock, decryption_whole}
use Rattle.aes_core.proofs.SquareLemmas.{by_planes, of_eight}
use Rattle.aes_core.proofs.eight.decrypt_eight.Goals as goal

pub returns : goal.returns
returns c b low =
    let w : List ℕ = c.args.keys.now in
    let first_states : List (List ℕ) = c.begin_decryption.result ∷ c.begin_decryption-2.result ∷ c.begin_decryption-3.result ∷ c.begin_decryption-4.result ∷ c.begin_decryption-5.result ∷ c.begin_decryption-6.result ∷ c.begin_decryption-7.result ∷ c.begin_decryption-8.result ∷ [] in
    let ended = by_planes (inverse_middle_rounds w) first_states c.transpose.result c.decrypt_planes.result c.transpose-2.result refl
    (λ x block. inverse_middle_rounds-IsBlock w x c.fits-keys block) c.transpose.ensures.given c.transpose.ensures.turned (λ s blocks is. c.decrypt_planes.ensures w s c.fits-keys blocks c.requires is) c.transpose-2.ensures.turned in
    let one : (x first last block : List ℕ) → first ≡ state_map plus_constant (rotated_rows 2 (add_round_key w 14 block)) → x ≡ inverse_middle_rounds w first → last ≡ add_round_key w 0 x → last ≡ decrypted_with w block =
    λ x first last block begins middle ends. ends ∙ ap (λ x. add_round_key w 0 x) (middle ∙ ap (inverse_middle_rounds w) begins) ∙ decryption_whole w block in
    of_eight (λ b. get_or (c.add_round_key.result ∷ c.add_round_key-2.result ∷ c.add_round_key-3.result ∷ c.add_round_key-4.result ∷ c.add_round_key-5.result ∷ c.add_round_key-6.result ∷ c.add_round_key-7.result ∷ c.add_round_key-8.result ∷ []) b [] ≡ decrypted_with w (get_or c.args.blocks b []))
    (one _ _ _ _ c.begin_decryption.ensures (ended 0 (omega arith)) c.add_round_key.ensures)
    (one _ _ _ _ c.begin_decryption-2.ensures (ended 1 (omega arith)) c.add_round_key-2.ensures)
    (one _ _ _ _ c.begin_decryption-3.ensures (ended 2 (omega arith)) c.add_round_key-3.ensures)
    (one _ _ _ _ c.begin_decryption-4.ensures (ended 3 (omega arith)) c.add_round_key-4.ensures)
    (one _ _ _ _ c.begin_decryption-5.ensures (ended 4 (omega arith)) c.add_round_key-5.ensures)
    (one _ _ _ _ c.begin_decryption-6.ensures (ended 5 (omega arith)) c.add_round_key-6.ensures)
    (one _ _ _ _ c.begin_decryption-7.ensures (ended 6 (omega arith)) c.add_round_key-7.ensures)
    (one _ _ _ _ c.begin_decryption-8.ensures (ended 7 (omega arith)) c.add_round_key-8.ensures) b low
