-- One block between rounds, as the code has it: its bytes in the basis of the S-box or of its inverse,
-- and its rows not shifted yet. These definitions describe the code and not the standard.
use Rattle.std.specs.Prelude.{ℕ, ◌+◌, ◌-◌, ◌%◌, List, map, bit_xor}
use Rattle.byte_words.specs.Blocks.{first_blocks}
use Rattle.aes_core.specs.declared.shuffle_tables.TheConstants.{AFFINE_CONSTANT, BASIS_OF_HIGH, BASIS_OF_LOW}
use Rattle.aes_core.specs.declared.shuffle_tables.TheConstants.{INVERSE_BASIS_OF_HIGH, INVERSE_BASIS_OF_LOW}
use Rattle.aes_core.specs.Lanes.{round_key}
use Rattle.aes_core.specs.Shuffles.{half_bytes}
use Rattle.aes_core.specs.Steps.{inverse_mix_columns}
use Rattle.aes_core.specs.UnshiftedRows.{rotated_rows}

-- a byte in the basis of the S-box, and in that of its inverse
unfoldable pub in_basis : ℕ → ℕ
in_basis b = half_bytes BASIS_OF_LOW BASIS_OF_HIGH b

unfoldable pub in_inverse_basis : ℕ → ℕ
in_inverse_basis b = half_bytes INVERSE_BASIS_OF_LOW INVERSE_BASIS_OF_HIGH b

-- a state of encryption after n rounds modulo 4, and one of decryption
unfoldable pub forward_state : ℕ → List ℕ → List ℕ
forward_state n s = map in_basis (rotated_rows (4 - n) s)

unfoldable pub inverse_state : ℕ → List ℕ → List ℕ
inverse_state n s = map in_inverse_basis (rotated_rows n s)

-- a round key as it is added after n rounds modulo 4: for encryption with the constant of the S-box, which
-- mixing columns leaves as it is; for decryption with its columns mixed back
unfoldable pub forward_key : ℕ → List ℕ → List ℕ
forward_key n key = map (λ b. in_basis (bit_xor b AFFINE_CONSTANT)) (rotated_rows (3 - n) key)

unfoldable pub inverse_key : ℕ → List ℕ → List ℕ
inverse_key n key = map in_inverse_basis (rotated_rows ((n + 1) % 4) (inverse_mix_columns key))

-- those of the rounds 1 to 13 for encryption, and of 13 to 1 for decryption
unfoldable pub forward_keys : List ℕ → List ℕ
forward_keys w = first_blocks (λ n. forward_key (n % 4) (round_key w (n + 1))) 13

unfoldable pub inverse_keys : List ℕ → List ℕ
inverse_keys w = first_blocks (λ n. inverse_key (n % 4) (round_key w (13 - n))) 13
