-- Decryption counted by the rounds that are done.
use Rattle.std.proofs.Common.{◌≡◌, ℕ, zero, suc, ◌-◌, ◌≤◌, List, refl, ap, sym, ◌∙◌, arith}
use Rattle.byte_words.specs.Bytes.{AreBytes}
use Rattle.aes_core.specs.Aes.{rounds_undone, decrypted_with}
use Rattle.aes_core.specs.Laws.{IsBlock}
use Rattle.aes_core.specs.Steps.{inverse_substitute_bytes, inverse_shift_rows, inverse_mix_columns, add_round_key}
use Rattle.aes_core.proofs.InverseLemmas.{add_round_key-IsBlock, inverse_mix_columns-IsBlock}
use Rattle.aes_core.proofs.RoundLemmas.{moved_back-IsBlock}

-- the state after n rounds of decryption
unfoldable pub undone_after : List ℕ → List ℕ → ℕ → List ℕ
undone_after w block zero = add_round_key w 14 block
undone_after w block (suc n) = inverse_mix_columns (add_round_key w (13 - n) (inverse_substitute_bytes (inverse_shift_rows (undone_after w block n))))

pub undone_after-IsBlock : (w block : List ℕ) (n : ℕ) → AreBytes w → IsBlock block → IsBlock (undone_after w block n)
unfolding undone_after
undone_after-IsBlock w block zero keys is = add_round_key-IsBlock w 14 block keys is
undone_after-IsBlock w block (suc n) keys is =
    inverse_mix_columns-IsBlock (add_round_key w (13 - n) (inverse_substitute_bytes (inverse_shift_rows (undone_after w block n))))
    (add_round_key-IsBlock w (13 - n) (inverse_substitute_bytes (inverse_shift_rows (undone_after w block n))) keys (moved_back-IsBlock (undone_after w block n) (undone_after-IsBlock w block n keys is)))

-- the rounds that are left make it the block decrypted
left_after : (w block : List ℕ) (n : ℕ) → n ≤ 13 → rounds_undone w (undone_after w block n) (13 - n) ≡ decrypted_with w block
unfolding undone_after rounds_undone decrypted_with
left_after w block zero low = refl
left_after w block (suc n) low =
    let left : 13 - n ≡ suc (13 - suc n) = omega arith in
    ap (λ k. rounds_undone w (inverse_mix_columns (add_round_key w k (inverse_substitute_bytes (inverse_shift_rows (undone_after w block n))))) (13 - suc n)) left
    ∙ ap (λ k. rounds_undone w (undone_after w block n) k) (sym left) ∙ left_after w block n (omega arith)

pub undone_whole : (w block : List ℕ) → add_round_key w 0 (inverse_substitute_bytes (inverse_shift_rows (undone_after w block 13))) ≡ decrypted_with w block
unfolding rounds_undone
undone_whole w block = left_after w block 13 (omega arith)
