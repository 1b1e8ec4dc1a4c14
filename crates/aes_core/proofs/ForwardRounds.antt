-- A round of encryption in the basis of the S-box, lane by lane.
use Rattle.std.proofs.Common.{◌≡◌, ℕ, ◌+◌, ◌-◌, ◌%◌, ◌<◌, List, ◌∷◌, [], map, length, refl, ap, sym, ◌∙◌, arith, Fits, w8}
use Rattle.std.proofs.lemmas.Nat.{xor_comm, xor_of_8}
use Rattle.std.proofs.lemmas.Simd.{Each1-from_get_or, map-map, zip2_of_maps}
use Rattle.std.specs.Prelude.{bit_xor, slice_index}
use Rattle.std.specs.Int.Bits.{xor_assoc, xor_self, xor_zero_r}
use Rattle.std.specs.Simd.Lanes.{Each1, zip2}
use Rattle.aes_core.specs.Basis.{in_basis, forward_state}
use Rattle.aes_core.specs.Field.{times_x, sum_with_product, field_product}
use Rattle.aes_core.specs.Laws.{IsBlock}
use Rattle.aes_core.specs.Shuffles.{found_in, first_part, second_part}
use Rattle.aes_core.specs.Steps.{mix_columns, shift_rows, substitute_bytes}
use Rattle.aes_core.specs.Substitution.{substitute_byte}
use Rattle.aes_core.specs.UnshiftedRows.{rotated_rows, unshifted_row}
use Rattle.aes_core.specs.declared.shuffle_tables.TheConstants.{AFFINE_CONSTANT, INVERSES, SCALED_INVERSES}
use Rattle.aes_core.proofs.BasisTables.{in_basis-xor, once_byte, twice_byte, by_both, Finds}
use Rattle.aes_core.proofs.ByteTables.{substitute_byte-lt, times_x-lt}
use Rattle.aes_core.proofs.LinearLemmas.{xor_swap, sum4, sum4-xor, product-xor, mixed}
use Rattle.aes_core.proofs.RowLemmas.{of_four, as_state, rotated_four_times}
use Rattle.aes_core.proofs.ShuffleLemmas.{lanes_equal, then_map}

-- no shift is left out at first
pub forward_state_at_first : (s : List ℕ) → length s ≡ 16 → map in_basis s ≡ forward_state 0 s
unfolding forward_state
forward_state_at_first s size = ap (map in_basis) (rotated_four_times s size)

pub last_shift : (s : List ℕ) → rotated_rows 2 (map substitute_byte (rotated_rows 3 s)) ≡ shift_rows (substitute_bytes s)
unfolding rotated_rows shift_rows substitute_bytes
last_shift s = refl

-- ---- look-ups by the parts of the inverses

block-fits : (s : List ℕ) → IsBlock s → Each1 (Fits w8) s
block-fits s block = Each1-from_get_or (Fits w8) s 0 (λ i low. record { fits = block.bytes i })

pub found_by_parts : (basis made : ℕ → ℕ) (of_first of_second s state first second r : List ℕ) → IsBlock s → Finds basis of_first of_second made →
    state ≡ map basis s → first ≡ map (first_part INVERSES SCALED_INVERSES) state → second ≡ map (second_part INVERSES SCALED_INVERSES) state →
    r ≡ zip2 bit_xor (map (found_in of_first) first) (map (found_in of_second) second) → r ≡ map made s
unfolding by_both
found_by_parts basis made of_first of_second s state first second r block finds is is_first is_second result =
    let firsts = then_map (first_part INVERSES SCALED_INVERSES) basis s state first is is_first in
    let seconds = then_map (second_part INVERSES SCALED_INVERSES) basis s state second is is_second in
    let found_first = ap (map (found_in of_first)) firsts ∙ map-map (found_in of_first) (λ b. first_part INVERSES SCALED_INVERSES (basis b)) s in
    let found_second = ap (map (found_in of_second)) seconds ∙ map-map (found_in of_second) (λ b. second_part INVERSES SCALED_INVERSES (basis b)) s in
    result ∙ zip2_of_maps bit_xor (λ b. found_in of_first (first_part INVERSES SCALED_INVERSES (basis b))) (λ b. found_in of_second (second_part INVERSES SCALED_INVERSES (basis b))) s found_first found_second
    ∙ lanes_equal (by_both basis of_first of_second) made s (block-fits s block) finds

-- ---- a lane of a round

pub mixed-xor : (k0 k1 k2 k3 a b c d e f g h : ℕ) → a < 256 → b < 256 → c < 256 → d < 256 → e < 256 → f < 256 → g < 256 → h < 256 →
    mixed k0 k1 k2 k3 (bit_xor a e) (bit_xor b f) (bit_xor c g) (bit_xor d h) ≡ bit_xor (mixed k0 k1 k2 k3 a b c d) (mixed k0 k1 k2 k3 e f g h)
mixed-xor k0 k1 k2 k3 a b c d e f g h p q r s t u v w =
    (λ i. sum4 (product-xor k0 a e p t i) (product-xor k1 b f q u i) (product-xor k2 c g r v i) (product-xor k3 d h s w i))
    ∙ sym (sum4-xor (field_product k0 a) (field_product k1 b) (field_product k2 c) (field_product k3 d) (field_product k0 e) (field_product k1 f) (field_product k2 g) (field_product k3 h))

-- mixing columns doesn't change the constant of the S-box
pub constant_mixed : mixed 0x02 0x03 0x01 0x01 AFFINE_CONSTANT AFFINE_CONSTANT AFFINE_CONSTANT AFFINE_CONSTANT ≡ AFFINE_CONSTANT
unfolding field_product sum_with_product times_x
constant_mixed = refl

-- the sum in the order of the code, and in that of the standard
reordered : (a b b2 c d k : ℕ) → bit_xor (bit_xor (bit_xor d k) (bit_xor a b)) (bit_xor b2 c) ≡ bit_xor (bit_xor (bit_xor (bit_xor a (bit_xor b b2)) c) d) k
reordered a b b2 c d k =
    xor_assoc (bit_xor d k) (bit_xor a b) (bit_xor b2 c) ∙ xor_comm (bit_xor d k) (bit_xor (bit_xor a b) (bit_xor b2 c))
    ∙ ap (λ z. bit_xor z (bit_xor d k)) (sym (xor_assoc (bit_xor a b) b2 c) ∙ ap (λ z. bit_xor z c) (xor_assoc a b b2))
    ∙ sym (xor_assoc (bit_xor (bit_xor a (bit_xor b b2)) c) d k)

mixed_is : (a b c d k : ℕ) → bit_xor (bit_xor (bit_xor d k) (bit_xor (times_x a) b)) (bit_xor (times_x b) c) ≡ bit_xor (mixed 0x02 0x03 0x01 0x01 a b c d) k
unfolding field_product sum_with_product
mixed_is a b c d k = reordered (times_x a) b (times_x b) c d k

pub without_constant-lt : (b : ℕ) → b < 256 → bit_xor (substitute_byte b) AFFINE_CONSTANT < 256
without_constant-lt b low = xor_of_8 (substitute_byte b) AFFINE_CONSTANT (substitute_byte-lt b low) (omega arith)

lane : (a b c d k : ℕ) → a < 256 → b < 256 → c < 256 → d < 256 → k < 256 →
    bit_xor (bit_xor (bit_xor (once_byte d) (in_basis (bit_xor k AFFINE_CONSTANT))) (bit_xor (twice_byte a) (once_byte b))) (bit_xor (twice_byte b) (once_byte c))
    ≡ in_basis (bit_xor (mixed 0x02 0x03 0x01 0x01 (substitute_byte a) (substitute_byte b) (substitute_byte c) (substitute_byte d)) k)
unfolding once_byte twice_byte
lane a b c d k p q r s t =
    let A : ℕ = bit_xor (substitute_byte a) AFFINE_CONSTANT in
    let B : ℕ = bit_xor (substitute_byte b) AFFINE_CONSTANT in
    let C : ℕ = bit_xor (substitute_byte c) AFFINE_CONSTANT in
    let D : ℕ = bit_xor (substitute_byte d) AFFINE_CONSTANT in
    let K : ℕ = bit_xor k AFFINE_CONSTANT in
    let Kl : K < 256 = xor_of_8 k AFFINE_CONSTANT t (omega arith) in
    let Al : times_x A < 256 = times_x-lt A (without_constant-lt a p) in
    let Bl : times_x B < 256 = times_x-lt B (without_constant-lt b q) in
    let dk : bit_xor D K < 256 = xor_of_8 D K (without_constant-lt d s) Kl in
    let ab : bit_xor (times_x A) B < 256 = xor_of_8 (times_x A) B Al (without_constant-lt b q) in
    let bc : bit_xor (times_x B) C < 256 = xor_of_8 (times_x B) C Bl (without_constant-lt c r) in
    let first = sym (in_basis-xor D K (without_constant-lt d s) Kl) in
    let second = sym (in_basis-xor (times_x A) B Al (without_constant-lt b q)) in
    let third = sym (in_basis-xor (times_x B) C Bl (without_constant-lt c r)) in
    let small_constant : AFFINE_CONSTANT < 256 = omega arith in
    let M : ℕ = mixed 0x02 0x03 0x01 0x01 (substitute_byte a) (substitute_byte b) (substitute_byte c) (substitute_byte d) in
    (λ i. bit_xor (bit_xor (first i) (second i)) (third i))
    ∙ ap (λ z. bit_xor z (in_basis (bit_xor (times_x B) C))) (sym (in_basis-xor (bit_xor D K) (bit_xor (times_x A) B) dk ab))
    ∙ sym (in_basis-xor (bit_xor (bit_xor D K) (bit_xor (times_x A) B)) (bit_xor (times_x B) C) (xor_of_8 (bit_xor D K) (bit_xor (times_x A) B) dk ab) bc)
    ∙ ap in_basis (mixed_is A B C D K
    ∙ ap (λ z. bit_xor z K) (mixed-xor 0x02 0x03 0x01 0x01 (substitute_byte a) (substitute_byte b) (substitute_byte c) (substitute_byte d) AFFINE_CONSTANT AFFINE_CONSTANT AFFINE_CONSTANT AFFINE_CONSTANT
    (substitute_byte-lt a p) (substitute_byte-lt b q) (substitute_byte-lt c r) (substitute_byte-lt d s) small_constant small_constant small_constant small_constant
    ∙ ap (λ z. bit_xor M z) constant_mixed)
    ∙ xor_swap M AFFINE_CONSTANT k AFFINE_CONSTANT ∙ ap (λ z. bit_xor (bit_xor M k) z) (xor_self AFFINE_CONSTANT) ∙ xor_zero_r (bit_xor M k))

-- ---- a round

-- the sum that the code computes from the values of the S-box, and the round
abbrev round_sum : ℕ → List ℕ → List ℕ → List ℕ → List ℕ
round_sum n once twice key =
    let sum = zip2 bit_xor twice (unshifted_row 1 n once) in
    zip2 bit_xor (zip2 bit_xor (zip2 bit_xor (unshifted_row 3 n once) key) sum) (unshifted_row 1 n sum)

abbrev RoundOn : ℕ → List ℕ → List ℕ → Type 0
RoundOn n s k =
    round_sum n (map once_byte (rotated_rows (4 - n) s)) (map twice_byte (rotated_rows (4 - n) s)) (map (λ b. in_basis (bit_xor b AFFINE_CONSTANT)) (rotated_rows (3 - n) k))
    ≡ map in_basis (rotated_rows (4 - (n + 1) % 4) (zip2 bit_xor (mix_columns (shift_rows (substitute_bytes s))) k))

-- the lane of these bytes of the state and this byte of the key
at : (s k : List ℕ) → IsBlock s → IsBlock k → (a b c d e : ℕ) →
    bit_xor (bit_xor (bit_xor (once_byte (slice_index s d)) (in_basis (bit_xor (slice_index k e) AFFINE_CONSTANT))) (bit_xor (twice_byte (slice_index s a)) (once_byte (slice_index s b))))
    (bit_xor (twice_byte (slice_index s b)) (once_byte (slice_index s c)))
    ≡ in_basis (bit_xor (mixed 0x02 0x03 0x01 0x01 (substitute_byte (slice_index s a)) (substitute_byte (slice_index s b)) (substitute_byte (slice_index s c)) (substitute_byte (slice_index s d))) (slice_index k e))
at s k sb kb a b c d e =
    lane (slice_index s a) (slice_index s b) (slice_index s c) (slice_index s d) (slice_index k e) (sb.bytes a) (sb.bytes b) (sb.bytes c) (sb.bytes d) (kb.bytes e)

round_0 : (s k : List ℕ) → IsBlock s → IsBlock k → RoundOn 0 s k
unfolding rotated_rows unshifted_row mix_columns shift_rows substitute_bytes
round_0 s k sb kb = as_state (λ k. RoundOn 0 s k) k kb.size (λ i.
    at s k sb kb 0 5 10 15 0 i ∷ at s k sb kb 1 6 11 12 13 i ∷ at s k sb kb 2 7 8 13 10 i ∷ at s k sb kb 3 4 9 14 7 i ∷
    at s k sb kb 4 9 14 3 4 i ∷ at s k sb kb 5 10 15 0 1 i ∷ at s k sb kb 6 11 12 1 14 i ∷ at s k sb kb 7 8 13 2 11 i ∷
    at s k sb kb 8 13 2 7 8 i ∷ at s k sb kb 9 14 3 4 5 i ∷ at s k sb kb 10 15 0 5 2 i ∷ at s k sb kb 11 12 1 6 15 i ∷
    at s k sb kb 12 1 6 11 12 i ∷ at s k sb kb 13 2 7 8 9 i ∷ at s k sb kb 14 3 4 9 6 i ∷ at s k sb kb 15 0 5 10 3 i ∷ [])

round_1 : (s k : List ℕ) → IsBlock s → IsBlock k → RoundOn 1 s k
unfolding rotated_rows unshifted_row mix_columns shift_rows substitute_bytes
round_1 s k sb kb = as_state (λ k. RoundOn 1 s k) k kb.size (λ i.
    at s k sb kb 0 5 10 15 0 i ∷ at s k sb kb 13 2 7 8 9 i ∷ at s k sb kb 10 15 0 5 2 i ∷ at s k sb kb 7 8 13 2 11 i ∷
    at s k sb kb 4 9 14 3 4 i ∷ at s k sb kb 1 6 11 12 13 i ∷ at s k sb kb 14 3 4 9 6 i ∷ at s k sb kb 11 12 1 6 15 i ∷
    at s k sb kb 8 13 2 7 8 i ∷ at s k sb kb 5 10 15 0 1 i ∷ at s k sb kb 2 7 8 13 10 i ∷ at s k sb kb 15 0 5 10 3 i ∷
    at s k sb kb 12 1 6 11 12 i ∷ at s k sb kb 9 14 3 4 5 i ∷ at s k sb kb 6 11 12 1 14 i ∷ at s k sb kb 3 4 9 14 7 i ∷ [])

round_2 : (s k : List ℕ) → IsBlock s → IsBlock k → RoundOn 2 s k
unfolding rotated_rows unshifted_row mix_columns shift_rows substitute_bytes
round_2 s k sb kb = as_state (λ k. RoundOn 2 s k) k kb.size (λ i.
    at s k sb kb 0 5 10 15 0 i ∷ at s k sb kb 9 14 3 4 5 i ∷ at s k sb kb 2 7 8 13 10 i ∷ at s k sb kb 11 12 1 6 15 i ∷
    at s k sb kb 4 9 14 3 4 i ∷ at s k sb kb 13 2 7 8 9 i ∷ at s k sb kb 6 11 12 1 14 i ∷ at s k sb kb 15 0 5 10 3 i ∷
    at s k sb kb 8 13 2 7 8 i ∷ at s k sb kb 1 6 11 12 13 i ∷ at s k sb kb 10 15 0 5 2 i ∷ at s k sb kb 3 4 9 14 7 i ∷
    at s k sb kb 12 1 6 11 12 i ∷ at s k sb kb 5 10 15 0 1 i ∷ at s k sb kb 14 3 4 9 6 i ∷ at s k sb kb 7 8 13 2 11 i ∷ [])

round_3 : (s k : List ℕ) → IsBlock s → IsBlock k → RoundOn 3 s k
unfolding rotated_rows unshifted_row mix_columns shift_rows substitute_bytes
round_3 s k sb kb = as_state (λ k. RoundOn 3 s k) k kb.size (λ i.
    at s k sb kb 0 5 10 15 0 i ∷ at s k sb kb 5 10 15 0 1 i ∷ at s k sb kb 10 15 0 5 2 i ∷ at s k sb kb 15 0 5 10 3 i ∷
    at s k sb kb 4 9 14 3 4 i ∷ at s k sb kb 9 14 3 4 5 i ∷ at s k sb kb 14 3 4 9 6 i ∷ at s k sb kb 3 4 9 14 7 i ∷
    at s k sb kb 8 13 2 7 8 i ∷ at s k sb kb 13 2 7 8 9 i ∷ at s k sb kb 2 7 8 13 10 i ∷ at s k sb kb 7 8 13 2 11 i ∷
    at s k sb kb 12 1 6 11 12 i ∷ at s k sb kb 1 6 11 12 13 i ∷ at s k sb kb 6 11 12 1 14 i ∷ at s k sb kb 11 12 1 6 15 i ∷ [])

pub round_on : (n : ℕ) → n < 4 → (s k : List ℕ) → IsBlock s → IsBlock k → RoundOn n s k
round_on = of_four (λ n. (s k : List ℕ) → IsBlock s → IsBlock k → RoundOn n s k) round_0 round_1 round_2 round_3
