-- Each step of a round is undone by its inverse, and makes blocks of blocks.
use Rattle.std.proofs.Common.{◌≡◌, ℕ, ◌<◌, refl, ◌+◌, ◌-◌, ◌*◌, List, [], ◌∷◌, get_or, ◌∙◌}
use Rattle.std.proofs.lemmas.Nat.{xor_of_8}
use Rattle.std.specs.Prelude.{bit_xor}
use Rattle.byte_words.specs.Bytes.{AreBytes}
use Rattle.byte_words.specs.Tables.{all_from}
use Rattle.aes_core.specs.Field.{times_x, sum_with_product, field_product}
use Rattle.aes_core.specs.Laws.{IsBlock}
use Rattle.aes_core.specs.Steps.{cell, state_of, mixed_cell, substitute_bytes, shift_rows, mix_columns, inverse_substitute_bytes, inverse_shift_rows, inverse_mix_columns, add_round_key}
use Rattle.aes_core.specs.Substitution.{substitute_byte, inverse_substitute_byte}
use Rattle.aes_core.proofs.ByteTables.{byte_equal, inverse_substitute-substitute, substitute-inverse_substitute, substitute_byte-lt, inverse_substitute_byte-lt}
use Rattle.aes_core.proofs.LinearLemmas.{xor_twice, mixed, mixed-lt, Undo, mixed-mixed}
use Rattle.aes_core.proofs.StateLemmas.{state_of-cell, state_of-IsBlock}

pub substitute_bytes-IsBlock : (s : List ℕ) → IsBlock s → IsBlock (substitute_bytes s)
unfolding substitute_bytes
substitute_bytes-IsBlock s block = state_of-IsBlock (λ r c. substitute_byte (cell s r c)) (λ r c. substitute_byte-lt (cell s r c) (block.bytes _))

pub inverse_substitute_bytes-IsBlock : (s : List ℕ) → IsBlock s → IsBlock (inverse_substitute_bytes s)
unfolding inverse_substitute_bytes
inverse_substitute_bytes-IsBlock s block = state_of-IsBlock (λ r c. inverse_substitute_byte (cell s r c)) (λ r c. inverse_substitute_byte-lt (cell s r c) (block.bytes _))

pub shift_rows-IsBlock : (s : List ℕ) → IsBlock s → IsBlock (shift_rows s)
unfolding shift_rows
shift_rows-IsBlock s block = state_of-IsBlock (λ r c. cell s r (c + r)) (λ r c. block.bytes _)

pub inverse_shift_rows-IsBlock : (s : List ℕ) → IsBlock s → IsBlock (inverse_shift_rows s)
unfolding inverse_shift_rows
inverse_shift_rows-IsBlock s block = state_of-IsBlock (λ r c. cell s r (c + 4 - r)) (λ r c. block.bytes _)

pub mix_columns-IsBlock : (s : List ℕ) → IsBlock s → IsBlock (mix_columns s)
unfolding mix_columns
mix_columns-IsBlock s block = state_of-IsBlock (λ r c. mixed 0x02 0x03 0x01 0x01 (cell s r c) (cell s (r + 1) c) (cell s (r + 2) c) (cell s (r + 3) c))
    (λ r c. mixed-lt 0x02 0x03 0x01 0x01 (cell s r c) (cell s (r + 1) c) (cell s (r + 2) c) (cell s (r + 3) c) (block.bytes _) (block.bytes _) (block.bytes _) (block.bytes _))

pub inverse_mix_columns-IsBlock : (s : List ℕ) → IsBlock s → IsBlock (inverse_mix_columns s)
unfolding inverse_mix_columns
inverse_mix_columns-IsBlock s block = state_of-IsBlock (λ r c. mixed 0x0e 0x0b 0x0d 0x09 (cell s r c) (cell s (r + 1) c) (cell s (r + 2) c) (cell s (r + 3) c))
    (λ r c. mixed-lt 0x0e 0x0b 0x0d 0x09 (cell s r c) (cell s (r + 1) c) (cell s (r + 2) c) (cell s (r + 3) c) (block.bytes _) (block.bytes _) (block.bytes _) (block.bytes _))

pub add_round_key-IsBlock : (w : List ℕ) (n : ℕ) (s : List ℕ) → AreBytes w → IsBlock s → IsBlock (add_round_key w n s)
unfolding add_round_key
add_round_key-IsBlock w n s keys block =
    state_of-IsBlock (λ r c. bit_xor (cell s r c) (get_or w (16 * n + (r + 4 * c)) 0)) (λ r c. xor_of_8 (cell s r c) (get_or w (16 * n + (r + 4 * c)) 0) (block.bytes _) (keys _))

-- a round key added twice cancels
pub add_round_key_twice : (w : List ℕ) (n : ℕ) (s : List ℕ) → IsBlock s → add_round_key w n (add_round_key w n s) ≡ s
unfolding add_round_key
add_round_key_twice w n s block =
    (λ j. xor_twice (get_or s 0 0) (get_or w (16 * n + 0) 0) j ∷ xor_twice (get_or s 1 0) (get_or w (16 * n + 1) 0) j ∷ xor_twice (get_or s 2 0) (get_or w (16 * n + 2) 0) j ∷ xor_twice (get_or s 3 0) (get_or w (16 * n + 3) 0) j ∷
    xor_twice (get_or s 4 0) (get_or w (16 * n + 4) 0) j ∷ xor_twice (get_or s 5 0) (get_or w (16 * n + 5) 0) j ∷ xor_twice (get_or s 6 0) (get_or w (16 * n + 6) 0) j ∷ xor_twice (get_or s 7 0) (get_or w (16 * n + 7) 0) j ∷
    xor_twice (get_or s 8 0) (get_or w (16 * n + 8) 0) j ∷ xor_twice (get_or s 9 0) (get_or w (16 * n + 9) 0) j ∷ xor_twice (get_or s 10 0) (get_or w (16 * n + 10) 0) j ∷ xor_twice (get_or s 11 0) (get_or w (16 * n + 11) 0) j ∷
    xor_twice (get_or s 12 0) (get_or w (16 * n + 12) 0) j ∷ xor_twice (get_or s 13 0) (get_or w (16 * n + 13) 0) j ∷ xor_twice (get_or s 14 0) (get_or w (16 * n + 14) 0) j ∷ xor_twice (get_or s 15 0) (get_or w (16 * n + 15) 0) j ∷ []) ∙ state_of-cell s block.size

-- one function of bytes is undone by another, for each byte of a state
each_back : (f g : ℕ → ℕ) → ((b : ℕ) → b < 256 → g (f b) ≡ b) → (s : List ℕ) → IsBlock s → state_of (λ r c. g (cell (state_of (λ r c. f (cell s r c))) r c)) ≡ s
each_back f g back s block =
    (λ j. back (get_or s 0 0) (block.bytes _) j ∷ back (get_or s 1 0) (block.bytes _) j ∷ back (get_or s 2 0) (block.bytes _) j ∷ back (get_or s 3 0) (block.bytes _) j ∷
    back (get_or s 4 0) (block.bytes _) j ∷ back (get_or s 5 0) (block.bytes _) j ∷ back (get_or s 6 0) (block.bytes _) j ∷ back (get_or s 7 0) (block.bytes _) j ∷
    back (get_or s 8 0) (block.bytes _) j ∷ back (get_or s 9 0) (block.bytes _) j ∷ back (get_or s 10 0) (block.bytes _) j ∷ back (get_or s 11 0) (block.bytes _) j ∷
    back (get_or s 12 0) (block.bytes _) j ∷ back (get_or s 13 0) (block.bytes _) j ∷ back (get_or s 14 0) (block.bytes _) j ∷ back (get_or s 15 0) (block.bytes _) j ∷ []) ∙ state_of-cell s block.size

pub inverse_substitute_bytes-substitute_bytes : (s : List ℕ) → IsBlock s → inverse_substitute_bytes (substitute_bytes s) ≡ s
unfolding substitute_bytes inverse_substitute_bytes
inverse_substitute_bytes-substitute_bytes s block = each_back substitute_byte inverse_substitute_byte inverse_substitute-substitute s block

pub substitute_bytes-inverse_substitute_bytes : (s : List ℕ) → IsBlock s → substitute_bytes (inverse_substitute_bytes s) ≡ s
unfolding substitute_bytes inverse_substitute_bytes
substitute_bytes-inverse_substitute_bytes s block = each_back inverse_substitute_byte substitute_byte substitute-inverse_substitute s block

pub inverse_shift_rows-shift_rows : (s : List ℕ) → IsBlock s → inverse_shift_rows (shift_rows s) ≡ s
unfolding shift_rows inverse_shift_rows
inverse_shift_rows-shift_rows s block = state_of-cell s block.size

pub shift_rows-inverse_shift_rows : (s : List ℕ) → IsBlock s → shift_rows (inverse_shift_rows s) ≡ s
unfolding shift_rows inverse_shift_rows
shift_rows-inverse_shift_rows s block = state_of-cell s block.size

unmixing : Undo 0x0e 0x0b 0x0d 0x09 0x02 0x03 0x01 0x01
unfolding all_from times_x sum_with_product field_product
unmixing = record { first = byte_equal _ _ refl; second = byte_equal _ _ refl; third = byte_equal _ _ refl; fourth = byte_equal _ _ refl }

mixing : Undo 0x02 0x03 0x01 0x01 0x0e 0x0b 0x0d 0x09
unfolding all_from times_x sum_with_product field_product
mixing = record { first = byte_equal _ _ refl; second = byte_equal _ _ refl; third = byte_equal _ _ refl; fourth = byte_equal _ _ refl }

-- and mixing columns is undone by the inverse polynomial
columns_back : (k0 k1 k2 k3 l0 l1 l2 l3 : ℕ) → Undo k0 k1 k2 k3 l0 l1 l2 l3 → (s : List ℕ) → IsBlock s → state_of (mixed_cell k0 k1 k2 k3 (state_of (mixed_cell l0 l1 l2 l3 s))) ≡ s
columns_back k0 k1 k2 k3 l0 l1 l2 l3 undo s block =
    let mix : (a b c d : ℕ) → ℕ = λ a b c d. mixed l0 l1 l2 l3 (get_or s a 0) (get_or s b 0) (get_or s c 0) (get_or s d 0) in
    let column : (a b c d : ℕ) → mixed k0 k1 k2 k3 (mix a b c d) (mix b c d a) (mix c d a b) (mix d a b c) ≡ get_or s a 0 =
    λ a b c d. mixed-mixed k0 k1 k2 k3 l0 l1 l2 l3 (get_or s a 0) (get_or s b 0) (get_or s c 0) (get_or s d 0) undo (block.bytes a) (block.bytes b) (block.bytes c) (block.bytes d) in
    (λ j. column 0 1 2 3 j ∷ column 1 2 3 0 j ∷ column 2 3 0 1 j ∷ column 3 0 1 2 j ∷
    column 4 5 6 7 j ∷ column 5 6 7 4 j ∷ column 6 7 4 5 j ∷ column 7 4 5 6 j ∷
    column 8 9 10 11 j ∷ column 9 10 11 8 j ∷ column 10 11 8 9 j ∷ column 11 8 9 10 j ∷
    column 12 13 14 15 j ∷ column 13 14 15 12 j ∷ column 14 15 12 13 j ∷ column 15 12 13 14 j ∷ []) ∙ state_of-cell s block.size

pub inverse_mix_columns-mix_columns : (s : List ℕ) → IsBlock s → inverse_mix_columns (mix_columns s) ≡ s
unfolding mix_columns inverse_mix_columns
inverse_mix_columns-mix_columns s block = columns_back 0x0e 0x0b 0x0d 0x09 0x02 0x03 0x01 0x01
    unmixing s block

pub mix_columns-inverse_mix_columns : (s : List ℕ) → IsBlock s → mix_columns (inverse_mix_columns s) ≡ s
unfolding mix_columns inverse_mix_columns
mix_columns-inverse_mix_columns s block = columns_back 0x02 0x03 0x01 0x01 0x0e 0x0b 0x0d 0x09
    mixing s block
