-- AES-256 on one block (FIPS 197, 5): Nr = 14 rounds. A key is 32 bytes, a block 16.
use Rattle.std.specs.Prelude.{ℕ, zero, suc, List}
use Rattle.aes_core.specs.RoundKeys.{round_keys}
use Rattle.aes_core.specs.Steps.{substitute_bytes, shift_rows, mix_columns, inverse_substitute_bytes}
use Rattle.aes_core.specs.Steps.{inverse_shift_rows, inverse_mix_columns, add_round_key}

-- the state after the first n rounds of CIPHER (5.1, algorithm 1), lines 3 to 9
unfoldable pub state_after : List ℕ → List ℕ → ℕ → List ℕ
state_after w block zero = add_round_key w 0 block
state_after w block (suc n) =
    add_round_key w (suc n) (mix_columns (shift_rows (substitute_bytes (state_after w block n))))

-- CIPHER: 13 rounds, and a last one that mixes no columns
unfoldable pub encrypted_with : List ℕ → List ℕ → List ℕ
encrypted_with w block = add_round_key w 14 (shift_rows (substitute_bytes (state_after w block 13)))

-- the result of INVCIPHER (5.3, algorithm 3) for a state when the rounds n to 1 are left, lines 4 to 12
unfoldable pub rounds_undone : List ℕ → List ℕ → ℕ → List ℕ
rounds_undone w s zero = add_round_key w 0 (inverse_substitute_bytes (inverse_shift_rows s))
rounds_undone w s (suc n) =
    let round = add_round_key w (suc n) (inverse_substitute_bytes (inverse_shift_rows s)) in
    rounds_undone w (inverse_mix_columns round) n

-- INVCIPHER
unfoldable pub decrypted_with : List ℕ → List ℕ → List ℕ
decrypted_with w block = rounds_undone w (add_round_key w 14 block) 13

-- AES-256
unfoldable pub encrypted_block : List ℕ → List ℕ → List ℕ
encrypted_block key block = encrypted_with (round_keys key) block

unfoldable pub decrypted_block : List ℕ → List ℕ → List ℕ
decrypted_block key block = decrypted_with (round_keys key) block
