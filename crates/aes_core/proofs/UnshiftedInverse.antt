-- A round of decryption with the rows unshifted and the constant of the S-box added, lane by lane.
use Rattle.std.proofs.Common.{◌≡◌, ℕ, ◌+◌, ◌-◌, ◌%◌, ◌<◌, List, [], ◌∷◌, length, refl, ap, sym, ◌∙◌, arith}
use Rattle.std.proofs.lemmas.Nat.{xor_of_8}
use Rattle.std.specs.Prelude.{bit_xor, slice_index}
use Rattle.std.specs.Int.Bits.{xor_assoc}
use Rattle.std.specs.Simd.Lanes.{zip2}
use Rattle.aes_core.specs.Field.{times_x, sum_with_product, field_product}
use Rattle.aes_core.specs.KeyPlanes.{common_key}
use Rattle.aes_core.specs.Laws.{IsBlock}
use Rattle.aes_core.specs.MiddleRounds.{state_map, plus_constant}
use Rattle.aes_core.specs.Steps.{inverse_mix_columns, inverse_shift_rows, inverse_substitute_bytes}
use Rattle.aes_core.specs.Substitution.{inverse_substitute_byte}
use Rattle.aes_core.specs.UnshiftedRows.{rotated_rows, unshifted_row, unshifted_mix, unshifted_inverse_mix}
use Rattle.aes_core.specs.declared.shuffle_tables.TheConstants.{AFFINE_CONSTANT}
use Rattle.aes_core.proofs.ByteTables.{inverse_substitute_byte-lt, times_x-lt}
use Rattle.aes_core.proofs.ColumnLemmas.{mixed_lane, unmixed_lane, premixed_byte}
use Rattle.aes_core.proofs.ForwardRounds.{mixed-xor}
use Rattle.aes_core.proofs.LinearLemmas.{xor_twice, mixed}
use Rattle.aes_core.proofs.RowLemmas.{of_four, as_state}

constant_mixed_back : mixed 0x0e 0x0b 0x0d 0x09 AFFINE_CONSTANT AFFINE_CONSTANT AFFINE_CONSTANT AFFINE_CONSTANT ≡ AFFINE_CONSTANT
unfolding field_product sum_with_product times_x
constant_mixed_back = refl

premixed-lt : (a c : ℕ) → a < 256 → c < 256 → premixed_byte a c < 256
unfolding premixed_byte
premixed-lt a c p r = xor_of_8 a (times_x (times_x (bit_xor a c))) p (times_x-lt (times_x (bit_xor a c)) (times_x-lt (bit_xor a c) (xor_of_8 a c p r)))

-- columns of four bytes mixed back, as the code does it
mixed_back : (a b c d : ℕ) → a < 256 → b < 256 → c < 256 → d < 256 →
    bit_xor (bit_xor (times_x (bit_xor (premixed_byte a c) (premixed_byte b d))) (premixed_byte b d)) (bit_xor (premixed_byte c a) (premixed_byte d b)) ≡ mixed 0x0e 0x0b 0x0d 0x09 a b c d
mixed_back a b c d p q r s =
    mixed_lane (premixed_byte a c) (premixed_byte b d) (premixed_byte c a) (premixed_byte d b) (premixed-lt a c p r) (premixed-lt b d q s) ∙ unmixed_lane a b c d p q r s

-- a byte of the sum of a state and a key
abbrev keyed : ℕ → ℕ → ℕ
keyed x k = bit_xor (inverse_substitute_byte x) (bit_xor k AFFINE_CONSTANT)

keyed-lt : (x k : ℕ) → x < 256 → k < 256 → keyed x k < 256
keyed-lt x k p q = xor_of_8 (inverse_substitute_byte x) (bit_xor k AFFINE_CONSTANT) (inverse_substitute_byte-lt x p) (xor_of_8 k AFFINE_CONSTANT q (omega arith))

keyed_is : (x k : ℕ) → keyed x k ≡ bit_xor (bit_xor (inverse_substitute_byte x) k) AFFINE_CONSTANT
keyed_is x k = sym (xor_assoc (inverse_substitute_byte x) k AFFINE_CONSTANT)

lane : (a b c d e f g h : ℕ) → a < 256 → b < 256 → c < 256 → d < 256 → e < 256 → f < 256 → g < 256 → h < 256 →
    bit_xor (bit_xor (times_x (bit_xor (premixed_byte (keyed a e) (keyed c g)) (premixed_byte (keyed b f) (keyed d h)))) (premixed_byte (keyed b f) (keyed d h))) (bit_xor (premixed_byte (keyed c g) (keyed a e)) (premixed_byte (keyed d h) (keyed b f)))
    ≡ plus_constant (mixed 0x0e 0x0b 0x0d 0x09 (bit_xor (inverse_substitute_byte a) e) (bit_xor (inverse_substitute_byte b) f) (bit_xor (inverse_substitute_byte c) g) (bit_xor (inverse_substitute_byte d) h))
unfolding plus_constant
lane a b c d e f g h p q r s t u v w =
    let small_constant : AFFINE_CONSTANT < 256 = omega arith in
    let M : ℕ = mixed 0x0e 0x0b 0x0d 0x09 (bit_xor (inverse_substitute_byte a) e) (bit_xor (inverse_substitute_byte b) f) (bit_xor (inverse_substitute_byte c) g) (bit_xor (inverse_substitute_byte d) h) in
    mixed_back (keyed a e) (keyed b f) (keyed c g) (keyed d h) (keyed-lt a e p t) (keyed-lt b f q u) (keyed-lt c g r v) (keyed-lt d h s w)
    ∙ (λ i. mixed 0x0e 0x0b 0x0d 0x09 (keyed_is a e i) (keyed_is b f i) (keyed_is c g i) (keyed_is d h i))
    ∙ mixed-xor 0x0e 0x0b 0x0d 0x09 (bit_xor (inverse_substitute_byte a) e) (bit_xor (inverse_substitute_byte b) f) (bit_xor (inverse_substitute_byte c) g) (bit_xor (inverse_substitute_byte d) h) AFFINE_CONSTANT AFFINE_CONSTANT AFFINE_CONSTANT AFFINE_CONSTANT
    (xor_of_8 (inverse_substitute_byte a) e (inverse_substitute_byte-lt a p) t) (xor_of_8 (inverse_substitute_byte b) f (inverse_substitute_byte-lt b q) u) (xor_of_8 (inverse_substitute_byte c) g (inverse_substitute_byte-lt c r) v) (xor_of_8 (inverse_substitute_byte d) h (inverse_substitute_byte-lt d s) w) small_constant small_constant small_constant small_constant
    ∙ ap (λ z. bit_xor M z) constant_mixed_back

abbrev RoundOn : ℕ → List ℕ → List ℕ → Type 0
RoundOn n s k =
    unshifted_inverse_mix ((4 - n) % 4) (zip2 bit_xor (inverse_substitute_bytes (rotated_rows (n + 2) s)) (common_key ((4 - n) % 4) k))
    ≡ state_map plus_constant (rotated_rows ((n + 1) % 4 + 2) (inverse_mix_columns (zip2 bit_xor (inverse_substitute_bytes (inverse_shift_rows s)) k)))

-- the lane of these bytes of the state and of the key
at : (s k : List ℕ) → IsBlock s → IsBlock k → (a b c d e f g h : ℕ) →
    bit_xor (bit_xor (times_x (bit_xor (premixed_byte (keyed (slice_index s a) (slice_index k e)) (keyed (slice_index s c) (slice_index k g))) (premixed_byte (keyed (slice_index s b) (slice_index k f)) (keyed (slice_index s d) (slice_index k h))))) (premixed_byte (keyed (slice_index s b) (slice_index k f)) (keyed (slice_index s d) (slice_index k h))))
    (bit_xor (premixed_byte (keyed (slice_index s c) (slice_index k g)) (keyed (slice_index s a) (slice_index k e))) (premixed_byte (keyed (slice_index s d) (slice_index k h)) (keyed (slice_index s b) (slice_index k f))))
    ≡ plus_constant (mixed 0x0e 0x0b 0x0d 0x09 (bit_xor (inverse_substitute_byte (slice_index s a)) (slice_index k e)) (bit_xor (inverse_substitute_byte (slice_index s b)) (slice_index k f))
    (bit_xor (inverse_substitute_byte (slice_index s c)) (slice_index k g)) (bit_xor (inverse_substitute_byte (slice_index s d)) (slice_index k h)))
at s k sb kb a b c d e f g h = lane (slice_index s a) (slice_index s b) (slice_index s c) (slice_index s d) (slice_index k e) (slice_index k f) (slice_index k g) (slice_index k h)
    (sb.bytes a) (sb.bytes b) (sb.bytes c) (sb.bytes d) (kb.bytes e) (kb.bytes f) (kb.bytes g) (kb.bytes h)

round_0 : (s k : List ℕ) → IsBlock s → IsBlock k → RoundOn 0 s k
unfolding rotated_rows unshifted_row unshifted_mix unshifted_inverse_mix common_key state_map inverse_mix_columns inverse_shift_rows inverse_substitute_bytes premixed_byte
round_0 s k sb kb = as_state (λ k. RoundOn 0 s k) k kb.size (λ i.
    at s k sb kb 0 13 10 7 0 1 2 3 i ∷ at s k sb kb 9 6 3 12 13 14 15 12 i ∷ at s k sb kb 2 15 8 5 10 11 8 9 i ∷ at s k sb kb 11 4 1 14 7 4 5 6 i ∷
    at s k sb kb 4 1 14 11 4 5 6 7 i ∷ at s k sb kb 13 10 7 0 1 2 3 0 i ∷ at s k sb kb 6 3 12 9 14 15 12 13 i ∷ at s k sb kb 15 8 5 2 11 8 9 10 i ∷
    at s k sb kb 8 5 2 15 8 9 10 11 i ∷ at s k sb kb 1 14 11 4 5 6 7 4 i ∷ at s k sb kb 10 7 0 13 2 3 0 1 i ∷ at s k sb kb 3 12 9 6 15 12 13 14 i ∷
    at s k sb kb 12 9 6 3 12 13 14 15 i ∷ at s k sb kb 5 2 15 8 9 10 11 8 i ∷ at s k sb kb 14 11 4 1 6 7 4 5 i ∷ at s k sb kb 7 0 13 10 3 0 1 2 i ∷ [])

round_1 : (s k : List ℕ) → IsBlock s → IsBlock k → RoundOn 1 s k
unfolding rotated_rows unshifted_row unshifted_mix unshifted_inverse_mix common_key state_map inverse_mix_columns inverse_shift_rows inverse_substitute_bytes premixed_byte
round_1 s k sb kb = as_state (λ k. RoundOn 1 s k) k kb.size (λ i.
    at s k sb kb 0 13 10 7 0 1 2 3 i ∷ at s k sb kb 13 10 7 0 1 2 3 0 i ∷ at s k sb kb 10 7 0 13 2 3 0 1 i ∷ at s k sb kb 7 0 13 10 3 0 1 2 i ∷
    at s k sb kb 4 1 14 11 4 5 6 7 i ∷ at s k sb kb 1 14 11 4 5 6 7 4 i ∷ at s k sb kb 14 11 4 1 6 7 4 5 i ∷ at s k sb kb 11 4 1 14 7 4 5 6 i ∷
    at s k sb kb 8 5 2 15 8 9 10 11 i ∷ at s k sb kb 5 2 15 8 9 10 11 8 i ∷ at s k sb kb 2 15 8 5 10 11 8 9 i ∷ at s k sb kb 15 8 5 2 11 8 9 10 i ∷
    at s k sb kb 12 9 6 3 12 13 14 15 i ∷ at s k sb kb 9 6 3 12 13 14 15 12 i ∷ at s k sb kb 6 3 12 9 14 15 12 13 i ∷ at s k sb kb 3 12 9 6 15 12 13 14 i ∷ [])

round_2 : (s k : List ℕ) → IsBlock s → IsBlock k → RoundOn 2 s k
unfolding rotated_rows unshifted_row unshifted_mix unshifted_inverse_mix common_key state_map inverse_mix_columns inverse_shift_rows inverse_substitute_bytes premixed_byte
round_2 s k sb kb = as_state (λ k. RoundOn 2 s k) k kb.size (λ i.
    at s k sb kb 0 13 10 7 0 1 2 3 i ∷ at s k sb kb 1 14 11 4 5 6 7 4 i ∷ at s k sb kb 2 15 8 5 10 11 8 9 i ∷ at s k sb kb 3 12 9 6 15 12 13 14 i ∷
    at s k sb kb 4 1 14 11 4 5 6 7 i ∷ at s k sb kb 5 2 15 8 9 10 11 8 i ∷ at s k sb kb 6 3 12 9 14 15 12 13 i ∷ at s k sb kb 7 0 13 10 3 0 1 2 i ∷
    at s k sb kb 8 5 2 15 8 9 10 11 i ∷ at s k sb kb 9 6 3 12 13 14 15 12 i ∷ at s k sb kb 10 7 0 13 2 3 0 1 i ∷ at s k sb kb 11 4 1 14 7 4 5 6 i ∷
    at s k sb kb 12 9 6 3 12 13 14 15 i ∷ at s k sb kb 13 10 7 0 1 2 3 0 i ∷ at s k sb kb 14 11 4 1 6 7 4 5 i ∷ at s k sb kb 15 8 5 2 11 8 9 10 i ∷ [])

round_3 : (s k : List ℕ) → IsBlock s → IsBlock k → RoundOn 3 s k
unfolding rotated_rows unshifted_row unshifted_mix unshifted_inverse_mix common_key state_map inverse_mix_columns inverse_shift_rows inverse_substitute_bytes premixed_byte
round_3 s k sb kb = as_state (λ k. RoundOn 3 s k) k kb.size (λ i.
    at s k sb kb 0 13 10 7 0 1 2 3 i ∷ at s k sb kb 5 2 15 8 9 10 11 8 i ∷ at s k sb kb 10 7 0 13 2 3 0 1 i ∷ at s k sb kb 15 8 5 2 11 8 9 10 i ∷
    at s k sb kb 4 1 14 11 4 5 6 7 i ∷ at s k sb kb 9 6 3 12 13 14 15 12 i ∷ at s k sb kb 14 11 4 1 6 7 4 5 i ∷ at s k sb kb 3 12 9 6 15 12 13 14 i ∷
    at s k sb kb 8 5 2 15 8 9 10 11 i ∷ at s k sb kb 13 10 7 0 1 2 3 0 i ∷ at s k sb kb 2 15 8 5 10 11 8 9 i ∷ at s k sb kb 7 0 13 10 3 0 1 2 i ∷
    at s k sb kb 12 9 6 3 12 13 14 15 i ∷ at s k sb kb 1 14 11 4 5 6 7 4 i ∷ at s k sb kb 6 3 12 9 14 15 12 13 i ∷ at s k sb kb 11 4 1 14 7 4 5 6 i ∷ [])

pub unshifted_inverse_round_on : (n : ℕ) → n < 4 → (s k : List ℕ) → IsBlock s → IsBlock k → RoundOn n s k
unshifted_inverse_round_on = of_four (λ n. (s k : List ℕ) → IsBlock s → IsBlock k → RoundOn n s k) round_0 round_1 round_2 round_3

-- ---- before the first round and after the last

-- the constant added twice
twice : (b : ℕ) → bit_xor (bit_xor b AFFINE_CONSTANT) AFFINE_CONSTANT ≡ b
twice b = xor_twice b AFFINE_CONSTANT

-- a state that was rotated by two and had the constant added, and then both again, is itself
pub rotated_back : (s : List ℕ) → length s ≡ 16 → s ≡ state_map plus_constant (rotated_rows 2 (rotated_rows 2 (state_map plus_constant s)))
unfolding rotated_rows state_map plus_constant
rotated_back s size = as_state (λ s. s ≡ state_map plus_constant (rotated_rows 2 (rotated_rows 2 (state_map plus_constant s)))) s size (λ i.
    sym (twice (slice_index s 0)) i ∷ sym (twice (slice_index s 1)) i ∷ sym (twice (slice_index s 2)) i ∷ sym (twice (slice_index s 3)) i ∷ sym (twice (slice_index s 4)) i ∷ sym (twice (slice_index s 5)) i ∷ sym (twice (slice_index s 6)) i ∷ sym (twice (slice_index s 7)) i ∷
    sym (twice (slice_index s 8)) i ∷ sym (twice (slice_index s 9)) i ∷ sym (twice (slice_index s 10)) i ∷ sym (twice (slice_index s 11)) i ∷ sym (twice (slice_index s 12)) i ∷ sym (twice (slice_index s 13)) i ∷ sym (twice (slice_index s 14)) i ∷ sym (twice (slice_index s 15)) i ∷ [])

pub constant_taken_back : (s : List ℕ) → length s ≡ 16 → rotated_rows 2 (state_map plus_constant (state_map plus_constant (rotated_rows 2 s))) ≡ s
unfolding rotated_rows state_map plus_constant
constant_taken_back s size = as_state (λ s. rotated_rows 2 (state_map plus_constant (state_map plus_constant (rotated_rows 2 s))) ≡ s) s size (λ i.
    twice (slice_index s 0) i ∷ twice (slice_index s 1) i ∷ twice (slice_index s 2) i ∷ twice (slice_index s 3) i ∷ twice (slice_index s 4) i ∷ twice (slice_index s 5) i ∷ twice (slice_index s 6) i ∷ twice (slice_index s 7) i ∷
    twice (slice_index s 8) i ∷ twice (slice_index s 9) i ∷ twice (slice_index s 10) i ∷ twice (slice_index s 11) i ∷ twice (slice_index s 12) i ∷ twice (slice_index s 13) i ∷ twice (slice_index s 14) i ∷ twice (slice_index s 15) i ∷ [])

pub last_inverse_round_whole : (s : List ℕ) → inverse_substitute_bytes (rotated_rows 3 s) ≡ inverse_substitute_bytes (inverse_shift_rows s)
unfolding rotated_rows inverse_shift_rows
last_inverse_round_whole s = refl
