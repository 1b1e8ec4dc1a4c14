-- A round of encryption with the rows unshifted and without the constant of the S-box, lane by lane.
use Rattle.std.proofs.Common.{◌≡◌, ℕ, ◌+◌, ◌-◌, ◌%◌, ◌<◌, List, [], ◌∷◌, map, length, refl, ap, ◌∙◌, arith}
use Rattle.std.proofs.lemmas.Nat.{xor_of_8}
use Rattle.std.specs.Prelude.{bit_xor, slice_index}
use Rattle.std.specs.Int.Bits.{xor_self, xor_zero_r}
use Rattle.std.specs.Simd.Lanes.{zip2}
use Rattle.aes_core.specs.Field.{times_x}
use Rattle.aes_core.specs.KeyPlanes.{common_key}
use Rattle.aes_core.specs.Laws.{IsBlock}
use Rattle.aes_core.specs.MiddleRounds.{state_map, substitute_without_constant, plus_constant}
use Rattle.aes_core.specs.Steps.{mix_columns, shift_rows, substitute_bytes}
use Rattle.aes_core.specs.Substitution.{substitute_byte}
use Rattle.aes_core.specs.UnshiftedRows.{rotated_rows, unshifted_row, unshifted_mix}
use Rattle.aes_core.specs.declared.shuffle_tables.TheConstants.{AFFINE_CONSTANT}
use Rattle.aes_core.proofs.ByteTables.{substitute_byte-lt}
use Rattle.aes_core.proofs.ColumnLemmas.{mixed_lane}
use Rattle.aes_core.proofs.ForwardRounds.{mixed-xor, constant_mixed, without_constant-lt}
use Rattle.aes_core.proofs.LinearLemmas.{xor_swap, xor_twice, mixed}
use Rattle.aes_core.proofs.RowLemmas.{of_four, as_state}

pub substitute_without_constant-lt : (b : ℕ) → b < 256 → substitute_without_constant b < 256
unfolding substitute_without_constant
substitute_without_constant-lt b low = without_constant-lt b low

pub plus_constant-lt : (b : ℕ) → b < 256 → plus_constant b < 256
unfolding plus_constant
plus_constant-lt b low = xor_of_8 b AFFINE_CONSTANT low (omega arith)

-- the constant cancels in a sum with a key that has it too
constant_out : (m k : ℕ) → bit_xor (bit_xor m AFFINE_CONSTANT) (bit_xor k AFFINE_CONSTANT) ≡ bit_xor m k
constant_out m k = xor_swap m AFFINE_CONSTANT k AFFINE_CONSTANT ∙ ap (λ z. bit_xor (bit_xor m k) z) (xor_self AFFINE_CONSTANT) ∙ xor_zero_r (bit_xor m k)

lane : (a b c d k : ℕ) → a < 256 → b < 256 → c < 256 → d < 256 →
    bit_xor (bit_xor (bit_xor (times_x (bit_xor (substitute_without_constant a) (substitute_without_constant b))) (substitute_without_constant b)) (bit_xor (substitute_without_constant c) (substitute_without_constant d))) (bit_xor k AFFINE_CONSTANT)
    ≡ bit_xor (mixed 0x02 0x03 0x01 0x01 (substitute_byte a) (substitute_byte b) (substitute_byte c) (substitute_byte d)) k
unfolding substitute_without_constant
lane a b c d k p q r s =
    let M : ℕ = mixed 0x02 0x03 0x01 0x01 (substitute_byte a) (substitute_byte b) (substitute_byte c) (substitute_byte d) in
    let small_constant : AFFINE_CONSTANT < 256 = omega arith in
    ap (λ z. bit_xor z (bit_xor k AFFINE_CONSTANT)) (mixed_lane (bit_xor (substitute_byte a) AFFINE_CONSTANT) (bit_xor (substitute_byte b) AFFINE_CONSTANT) (bit_xor (substitute_byte c) AFFINE_CONSTANT) (bit_xor (substitute_byte d) AFFINE_CONSTANT) (without_constant-lt a p) (without_constant-lt b q)
    ∙ mixed-xor 0x02 0x03 0x01 0x01 (substitute_byte a) (substitute_byte b) (substitute_byte c) (substitute_byte d) AFFINE_CONSTANT AFFINE_CONSTANT AFFINE_CONSTANT AFFINE_CONSTANT
    (substitute_byte-lt a p) (substitute_byte-lt b q) (substitute_byte-lt c r) (substitute_byte-lt d s) small_constant small_constant small_constant small_constant
    ∙ ap (λ z. bit_xor M z) constant_mixed)
    ∙ constant_out M k

abbrev RoundOn : ℕ → List ℕ → List ℕ → Type 0
RoundOn n s k =
    zip2 bit_xor (unshifted_mix n (state_map substitute_without_constant (rotated_rows (4 - n) s))) (common_key n k)
    ≡ rotated_rows (4 - (n + 1) % 4) (zip2 bit_xor (mix_columns (shift_rows (substitute_bytes s))) k)

-- the lane of these bytes of the state and this byte of the key
at : (s k : List ℕ) → IsBlock s → (a b c d e : ℕ) →
    bit_xor (bit_xor (bit_xor (times_x (bit_xor (substitute_without_constant (slice_index s a)) (substitute_without_constant (slice_index s b)))) (substitute_without_constant (slice_index s b)))
    (bit_xor (substitute_without_constant (slice_index s c)) (substitute_without_constant (slice_index s d)))) (bit_xor (slice_index k e) AFFINE_CONSTANT)
    ≡ bit_xor (mixed 0x02 0x03 0x01 0x01 (substitute_byte (slice_index s a)) (substitute_byte (slice_index s b)) (substitute_byte (slice_index s c)) (substitute_byte (slice_index s d))) (slice_index k e)
at s k sb a b c d e = lane (slice_index s a) (slice_index s b) (slice_index s c) (slice_index s d) (slice_index k e) (sb.bytes a) (sb.bytes b) (sb.bytes c) (sb.bytes d)

round_0 : (s k : List ℕ) → IsBlock s → length k ≡ 16 → RoundOn 0 s k
unfolding rotated_rows unshifted_row unshifted_mix common_key state_map mix_columns shift_rows substitute_bytes
round_0 s k sb size = as_state (λ k. RoundOn 0 s k) k size (λ i.
    at s k sb 0 5 10 15 0 i ∷ at s k sb 1 6 11 12 13 i ∷ at s k sb 2 7 8 13 10 i ∷ at s k sb 3 4 9 14 7 i ∷
    at s k sb 4 9 14 3 4 i ∷ at s k sb 5 10 15 0 1 i ∷ at s k sb 6 11 12 1 14 i ∷ at s k sb 7 8 13 2 11 i ∷
    at s k sb 8 13 2 7 8 i ∷ at s k sb 9 14 3 4 5 i ∷ at s k sb 10 15 0 5 2 i ∷ at s k sb 11 12 1 6 15 i ∷
    at s k sb 12 1 6 11 12 i ∷ at s k sb 13 2 7 8 9 i ∷ at s k sb 14 3 4 9 6 i ∷ at s k sb 15 0 5 10 3 i ∷ [])

round_1 : (s k : List ℕ) → IsBlock s → length k ≡ 16 → RoundOn 1 s k
unfolding rotated_rows unshifted_row unshifted_mix common_key state_map mix_columns shift_rows substitute_bytes
round_1 s k sb size = as_state (λ k. RoundOn 1 s k) k size (λ i.
    at s k sb 0 5 10 15 0 i ∷ at s k sb 13 2 7 8 9 i ∷ at s k sb 10 15 0 5 2 i ∷ at s k sb 7 8 13 2 11 i ∷
    at s k sb 4 9 14 3 4 i ∷ at s k sb 1 6 11 12 13 i ∷ at s k sb 14 3 4 9 6 i ∷ at s k sb 11 12 1 6 15 i ∷
    at s k sb 8 13 2 7 8 i ∷ at s k sb 5 10 15 0 1 i ∷ at s k sb 2 7 8 13 10 i ∷ at s k sb 15 0 5 10 3 i ∷
    at s k sb 12 1 6 11 12 i ∷ at s k sb 9 14 3 4 5 i ∷ at s k sb 6 11 12 1 14 i ∷ at s k sb 3 4 9 14 7 i ∷ [])

round_2 : (s k : List ℕ) → IsBlock s → length k ≡ 16 → RoundOn 2 s k
unfolding rotated_rows unshifted_row unshifted_mix common_key state_map mix_columns shift_rows substitute_bytes
round_2 s k sb size = as_state (λ k. RoundOn 2 s k) k size (λ i.
    at s k sb 0 5 10 15 0 i ∷ at s k sb 9 14 3 4 5 i ∷ at s k sb 2 7 8 13 10 i ∷ at s k sb 11 12 1 6 15 i ∷
    at s k sb 4 9 14 3 4 i ∷ at s k sb 13 2 7 8 9 i ∷ at s k sb 6 11 12 1 14 i ∷ at s k sb 15 0 5 10 3 i ∷
    at s k sb 8 13 2 7 8 i ∷ at s k sb 1 6 11 12 13 i ∷ at s k sb 10 15 0 5 2 i ∷ at s k sb 3 4 9 14 7 i ∷
    at s k sb 12 1 6 11 12 i ∷ at s k sb 5 10 15 0 1 i ∷ at s k sb 14 3 4 9 6 i ∷ at s k sb 7 8 13 2 11 i ∷ [])

round_3 : (s k : List ℕ) → IsBlock s → length k ≡ 16 → RoundOn 3 s k
unfolding rotated_rows unshifted_row unshifted_mix common_key state_map mix_columns shift_rows substitute_bytes
round_3 s k sb size = as_state (λ k. RoundOn 3 s k) k size (λ i.
    at s k sb 0 5 10 15 0 i ∷ at s k sb 5 10 15 0 1 i ∷ at s k sb 10 15 0 5 2 i ∷ at s k sb 15 0 5 10 3 i ∷
    at s k sb 4 9 14 3 4 i ∷ at s k sb 9 14 3 4 5 i ∷ at s k sb 14 3 4 9 6 i ∷ at s k sb 3 4 9 14 7 i ∷
    at s k sb 8 13 2 7 8 i ∷ at s k sb 13 2 7 8 9 i ∷ at s k sb 2 7 8 13 10 i ∷ at s k sb 7 8 13 2 11 i ∷
    at s k sb 12 1 6 11 12 i ∷ at s k sb 1 6 11 12 13 i ∷ at s k sb 6 11 12 1 14 i ∷ at s k sb 11 12 1 6 15 i ∷ [])

pub unshifted_round_on : (n : ℕ) → n < 4 → (s k : List ℕ) → IsBlock s → length k ≡ 16 → RoundOn n s k
unshifted_round_on = of_four (λ n. (s k : List ℕ) → IsBlock s → length k ≡ 16 → RoundOn n s k) round_0 round_1 round_2 round_3

-- the constant added twice
twice : (b : ℕ) → bit_xor (bit_xor (substitute_byte b) AFFINE_CONSTANT) AFFINE_CONSTANT ≡ substitute_byte b
twice b = xor_twice (substitute_byte b) AFFINE_CONSTANT

-- the last round, whose constant and shifts are applied at the end
pub last_round_whole : (s : List ℕ) → rotated_rows 2 (state_map plus_constant (state_map substitute_without_constant (rotated_rows 3 s))) ≡ shift_rows (substitute_bytes s)
unfolding rotated_rows state_map plus_constant substitute_without_constant shift_rows substitute_bytes
last_round_whole s = λ i.
    twice (slice_index s 0) i ∷ twice (slice_index s 5) i ∷ twice (slice_index s 10) i ∷ twice (slice_index s 15) i ∷ twice (slice_index s 4) i ∷ twice (slice_index s 9) i ∷ twice (slice_index s 14) i ∷ twice (slice_index s 3) i ∷
    twice (slice_index s 8) i ∷ twice (slice_index s 13) i ∷ twice (slice_index s 2) i ∷ twice (slice_index s 7) i ∷ twice (slice_index s 12) i ∷ twice (slice_index s 1) i ∷ twice (slice_index s 6) i ∷ twice (slice_index s 11) i ∷ []

pub map_is_state_map : (f : ℕ → ℕ) (s : List ℕ) → length s ≡ 16 → map f s ≡ state_map f s
unfolding state_map
map_is_state_map f s size = as_state (λ s. map f s ≡ state_map f s) s size refl
