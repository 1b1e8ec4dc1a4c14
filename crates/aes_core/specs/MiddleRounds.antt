-- The steps on a block while it is in planes of bits: all between the first and the last key, except the
-- shifts of rows and the constant of the last S-box. These definitions describe the code and not the
-- standard.
use Rattle.std.specs.Prelude.{ℕ, zero, suc, ◌-◌, List, bit_xor}
use Rattle.aes_core.specs.declared.shuffle_tables.TheConstants.{AFFINE_CONSTANT}
use Rattle.aes_core.specs.Steps.{add_round_key, cell, inverse_mix_columns, inverse_shift_rows}
use Rattle.aes_core.specs.Steps.{inverse_substitute_bytes, mix_columns, shift_rows, state_of}
use Rattle.aes_core.specs.Steps.{substitute_bytes}
use Rattle.aes_core.specs.Substitution.{substitute_byte}
use Rattle.aes_core.specs.UnshiftedRows.{rotated_rows}

-- a function of bytes on each byte of a state
unfoldable pub state_map : (ℕ → ℕ) → List ℕ → List ℕ
state_map f s = state_of (λ r c. f (cell s r c))

-- the S-box without its constant, and the constant alone
unfoldable pub substitute_without_constant : ℕ → ℕ
substitute_without_constant b = bit_xor (substitute_byte b) AFFINE_CONSTANT

unfoldable pub plus_constant : ℕ → ℕ
plus_constant b = bit_xor b AFFINE_CONSTANT

-- n rounds of encryption after the first key, and of decryption after the last
unfoldable pub rounds_from : List ℕ → List ℕ → ℕ → List ℕ
rounds_from w s zero = s
rounds_from w s (suc n) =
    add_round_key w (suc n) (mix_columns (shift_rows (substitute_bytes (rounds_from w s n))))

unfoldable pub inverse_rounds_from : List ℕ → List ℕ → ℕ → List ℕ
inverse_rounds_from w s zero = s
inverse_rounds_from w s (suc n) =
    let state = inverse_rounds_from w s n in
    inverse_mix_columns (add_round_key w (13 - n) (inverse_substitute_bytes (inverse_shift_rows state)))

-- encryption in planes, and decryption in planes
unfoldable pub middle_rounds : List ℕ → List ℕ → List ℕ
middle_rounds w s = state_map substitute_without_constant (rotated_rows 3 (rounds_from w s 13))

unfoldable pub inverse_middle_rounds : List ℕ → List ℕ → List ℕ
inverse_middle_rounds w s =
    let first = rotated_rows 2 (state_map plus_constant s) in
    inverse_substitute_bytes (rotated_rows 3 (inverse_rounds_from w first 13))
