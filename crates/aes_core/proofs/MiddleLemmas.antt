-- The rounds in planes of bits, and the steps before and after them.
use Rattle.std.proofs.Common.{◌≡◌, ℕ, zero, suc, ◌-◌, List, refl, ap, ◌∙◌}
use Rattle.byte_words.specs.Bytes.{AreBytes}
use Rattle.aes_core.specs.Aes.{state_after, encrypted_with, decrypted_with}
use Rattle.aes_core.specs.Laws.{IsBlock}
use Rattle.aes_core.specs.Steps.{substitute_bytes, shift_rows, mix_columns, inverse_substitute_bytes, inverse_shift_rows, inverse_mix_columns, add_round_key}
use Rattle.aes_core.specs.UnshiftedRows.{rotated_rows}
use Rattle.aes_core.specs.MiddleRounds.{state_map, substitute_without_constant, plus_constant, rounds_from, inverse_rounds_from, middle_rounds, inverse_middle_rounds}
use Rattle.aes_core.proofs.InverseLemmas.{mix_columns-IsBlock, inverse_mix_columns-IsBlock, inverse_substitute_bytes-IsBlock, add_round_key-IsBlock}
use Rattle.aes_core.proofs.PlaneSteps.{state_map-IsBlock}
use Rattle.aes_core.proofs.RoundLemmas.{moved-IsBlock, moved_back-IsBlock}
use Rattle.aes_core.proofs.UndoneLemmas.{undone_after, undone_whole}
use Rattle.aes_core.proofs.RowLemmas.{rotated_rows-IsBlock}
use Rattle.aes_core.proofs.UnshiftedRounds.{substitute_without_constant-lt, plus_constant-lt, last_round_whole}
use Rattle.aes_core.proofs.UnshiftedInverse.{constant_taken_back, last_inverse_round_whole}

pub rounds_from-IsBlock : (w s : List ℕ) (n : ℕ) → AreBytes w → IsBlock s → IsBlock (rounds_from w s n)
unfolding rounds_from
rounds_from-IsBlock w s zero keys is = is
rounds_from-IsBlock w s (suc n) keys is = add_round_key-IsBlock w (suc n) (mix_columns (shift_rows (substitute_bytes (rounds_from w s n)))) keys
    (mix_columns-IsBlock (shift_rows (substitute_bytes (rounds_from w s n))) (moved-IsBlock (rounds_from w s n) (rounds_from-IsBlock w s n keys is)))

pub inverse_rounds_from-IsBlock : (w s : List ℕ) (n : ℕ) → AreBytes w → IsBlock s → IsBlock (inverse_rounds_from w s n)
unfolding inverse_rounds_from
inverse_rounds_from-IsBlock w s zero keys is = is
inverse_rounds_from-IsBlock w s (suc n) keys is =
    inverse_mix_columns-IsBlock (add_round_key w (13 - n) (inverse_substitute_bytes (inverse_shift_rows (inverse_rounds_from w s n))))
    (add_round_key-IsBlock w (13 - n) (inverse_substitute_bytes (inverse_shift_rows (inverse_rounds_from w s n))) keys (moved_back-IsBlock (inverse_rounds_from w s n) (inverse_rounds_from-IsBlock w s n keys is)))

from_first : (w block : List ℕ) (n : ℕ) → rounds_from w (add_round_key w 0 block) n ≡ state_after w block n
unfolding rounds_from state_after
from_first w block zero = refl
from_first w block (suc n) = ap (λ s. add_round_key w (suc n) (mix_columns (shift_rows (substitute_bytes s)))) (from_first w block n)

from_last : (w block : List ℕ) (n : ℕ) → inverse_rounds_from w (add_round_key w 14 block) n ≡ undone_after w block n
unfolding inverse_rounds_from undone_after
from_last w block zero = refl
from_last w block (suc n) = ap (λ s. inverse_mix_columns (add_round_key w (13 - n) (inverse_substitute_bytes (inverse_shift_rows s)))) (from_last w block n)

pub middle_rounds-IsBlock : (w s : List ℕ) → AreBytes w → IsBlock s → IsBlock (middle_rounds w s)
unfolding middle_rounds
middle_rounds-IsBlock w s keys is = state_map-IsBlock substitute_without_constant substitute_without_constant-lt (rotated_rows 3 (rounds_from w s 13)) (rotated_rows-IsBlock 3 (rounds_from w s 13) (rounds_from-IsBlock w s 13 keys is))

pub rotated_constant-IsBlock : (s : List ℕ) → IsBlock s → IsBlock (rotated_rows 2 (state_map plus_constant s))
rotated_constant-IsBlock s is = rotated_rows-IsBlock 2 (state_map plus_constant s) (state_map-IsBlock plus_constant plus_constant-lt s is)

pub inverse_middle_rounds-IsBlock : (w s : List ℕ) → AreBytes w → IsBlock s → IsBlock (inverse_middle_rounds w s)
unfolding inverse_middle_rounds
inverse_middle_rounds-IsBlock w s keys is = inverse_substitute_bytes-IsBlock (rotated_rows 3 (inverse_rounds_from w (rotated_rows 2 (state_map plus_constant s)) 13))
    (rotated_rows-IsBlock 3 (inverse_rounds_from w (rotated_rows 2 (state_map plus_constant s)) 13) (inverse_rounds_from-IsBlock w (rotated_rows 2 (state_map plus_constant s)) 13 keys (rotated_constant-IsBlock s is)))

-- encryption with its last steps
pub encryption_whole : (w block : List ℕ) → add_round_key w 14 (rotated_rows 2 (state_map plus_constant (middle_rounds w (add_round_key w 0 block)))) ≡ encrypted_with w block
unfolding middle_rounds encrypted_with
encryption_whole w block =
    let state : List ℕ = rounds_from w (add_round_key w 0 block) 13 in
    ap (λ s. add_round_key w 14 s) (last_round_whole state ∙ ap (λ s. shift_rows (substitute_bytes s)) (from_first w block 13))

-- decryption with its first and last steps
pub decryption_whole : (w block : List ℕ) → add_round_key w 0 (inverse_middle_rounds w (state_map plus_constant (rotated_rows 2 (add_round_key w 14 block)))) ≡ decrypted_with w block
unfolding inverse_middle_rounds add_round_key
decryption_whole w block =
    let first : List ℕ = add_round_key w 14 block in
    let state : List ℕ = inverse_rounds_from w first 13 in
    ap (λ s. add_round_key w 0 (inverse_substitute_bytes (rotated_rows 3 (inverse_rounds_from w s 13)))) (constant_taken_back first refl)
    ∙ ap (λ s. add_round_key w 0 s) (last_inverse_round_whole state ∙ ap (λ s. inverse_substitute_bytes (inverse_shift_rows s)) (from_last w block 13))
    ∙ undone_whole w block
