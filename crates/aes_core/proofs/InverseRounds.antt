-- A round of decryption in the basis of the inverse S-box, lane by lane.
use Rattle.std.proofs.Common.{◌≡◌, ℕ, ◌+◌, ◌-◌, ◌%◌, ◌<◌, List, ◌∷◌, [], map, length, refl, ap, sym, ◌∙◌}
use Rattle.std.proofs.lemmas.Nat.{xor_comm, xor_of_8}
use Rattle.std.specs.Prelude.{bit_xor, slice_index}
use Rattle.std.specs.Int.Bits.{xor_assoc}
use Rattle.std.specs.Simd.Lanes.{zip2}
use Rattle.aes_core.specs.Basis.{in_inverse_basis, inverse_state}
use Rattle.aes_core.specs.Field.{field_product}
use Rattle.aes_core.specs.Laws.{IsBlock}
use Rattle.aes_core.specs.Steps.{inverse_mix_columns, inverse_shift_rows, inverse_substitute_bytes}
use Rattle.aes_core.specs.Substitution.{inverse_substitute_byte}
use Rattle.aes_core.specs.UnshiftedRows.{rotated_rows, unshifted_row}
use Rattle.aes_core.proofs.BasisTables.{linear_part, in_inverse_basis-xor, linear_part-xor, inverse_product}
use Rattle.aes_core.proofs.ByteTables.{inverse_substitute_byte-lt}
use Rattle.aes_core.proofs.ForwardRounds.{mixed-xor}
use Rattle.aes_core.proofs.LinearLemmas.{sum4, product-lt, mixed, mixed-lt}
use Rattle.aes_core.proofs.RowLemmas.{of_four, as_state, not_rotated}

-- no shift is left out at first
pub inverse_state_at_first : (s : List ℕ) → length s ≡ 16 → map in_inverse_basis s ≡ inverse_state 0 s
unfolding inverse_state
inverse_state_at_first s size = ap (map in_inverse_basis) (not_rotated s size)

pub last_inverse_shift : (s : List ℕ) → rotated_rows 2 (map inverse_substitute_byte (rotated_rows 1 s)) ≡ inverse_substitute_bytes (inverse_shift_rows s)
unfolding rotated_rows inverse_shift_rows inverse_substitute_bytes
last_inverse_shift s = refl

-- ---- a lane of a round

reordered : (a b c d k : ℕ) → bit_xor (bit_xor b (bit_xor c d)) (bit_xor a k) ≡ bit_xor (sum4 a b c d) k
reordered a b c d k =
    xor_comm (bit_xor b (bit_xor c d)) (bit_xor a k) ∙ xor_assoc a k (bit_xor b (bit_xor c d))
    ∙ ap (λ z. bit_xor a z) (xor_comm k (bit_xor b (bit_xor c d))) ∙ sym (xor_assoc a (bit_xor b (bit_xor c d)) k)
    ∙ ap (λ z. bit_xor z k) (ap (λ z. bit_xor a z) (sym (xor_assoc b c d)) ∙ sym (xor_assoc a (bit_xor b c) d) ∙ ap (λ z. bit_xor z d) (sym (xor_assoc a b c)))

lane : (a b c d e f g h : ℕ) → a < 256 → b < 256 → c < 256 → d < 256 → e < 256 → f < 256 → g < 256 → h < 256 →
    bit_xor (bit_xor (inverse_product 0x0e a) (in_inverse_basis (mixed 0x0e 0x0b 0x0d 0x09 e f g h))) (bit_xor (inverse_product 0x0b b) (bit_xor (inverse_product 0x0d c) (inverse_product 0x09 d)))
    ≡ in_inverse_basis (mixed 0x0e 0x0b 0x0d 0x09 (bit_xor (inverse_substitute_byte a) e) (bit_xor (inverse_substitute_byte b) f) (bit_xor (inverse_substitute_byte c) g) (bit_xor (inverse_substitute_byte d) h))
unfolding inverse_product
lane a b c d e f g h p q r s t u v w =
    let A : ℕ = field_product 0x0e (inverse_substitute_byte a) in
    let B : ℕ = field_product 0x0b (inverse_substitute_byte b) in
    let C : ℕ = field_product 0x0d (inverse_substitute_byte c) in
    let D : ℕ = field_product 0x09 (inverse_substitute_byte d) in
    let K : ℕ = mixed 0x0e 0x0b 0x0d 0x09 e f g h in
    let Al : A < 256 = product-lt 0x0e (inverse_substitute_byte a) (inverse_substitute_byte-lt a p) in
    let Bl : B < 256 = product-lt 0x0b (inverse_substitute_byte b) (inverse_substitute_byte-lt b q) in
    let Cl : C < 256 = product-lt 0x0d (inverse_substitute_byte c) (inverse_substitute_byte-lt c r) in
    let Dl : D < 256 = product-lt 0x09 (inverse_substitute_byte d) (inverse_substitute_byte-lt d s) in
    let Kl : K < 256 = mixed-lt 0x0e 0x0b 0x0d 0x09 e f g h t u v w in
    let cd : bit_xor C D < 256 = xor_of_8 C D Cl Dl in
    let bcd : bit_xor B (bit_xor C D) < 256 = xor_of_8 B (bit_xor C D) Bl cd in
    let first = sym (in_inverse_basis-xor A K Al Kl) in
    let second = ap (λ z. bit_xor (linear_part B) z) (sym (linear_part-xor C D Cl Dl)) ∙ sym (linear_part-xor B (bit_xor C D) Bl cd) in
    (λ i. bit_xor (first i) (second i))
    ∙ xor_comm (in_inverse_basis (bit_xor A K)) (linear_part (bit_xor B (bit_xor C D)))
    ∙ sym (in_inverse_basis-xor (bit_xor B (bit_xor C D)) (bit_xor A K) bcd (xor_of_8 A K Al Kl))
    ∙ ap in_inverse_basis (reordered A B C D K
    ∙ sym (mixed-xor 0x0e 0x0b 0x0d 0x09 (inverse_substitute_byte a) (inverse_substitute_byte b) (inverse_substitute_byte c) (inverse_substitute_byte d) e f g h
    (inverse_substitute_byte-lt a p) (inverse_substitute_byte-lt b q) (inverse_substitute_byte-lt c r) (inverse_substitute_byte-lt d s) t u v w))

-- ---- a round

-- the sum that the code computes from the products of the inverse S-box's values, and the round
abbrev round_sum : ℕ → List ℕ → List ℕ → List ℕ → List ℕ → List ℕ → List ℕ
round_sum n by_14 by_11 by_13 by_9 key =
    zip2 bit_xor (zip2 bit_xor by_14 key) (unshifted_row 1 n (zip2 bit_xor by_11 (unshifted_row 1 n (zip2 bit_xor by_13 (unshifted_row 1 n by_9)))))

abbrev RoundOn : ℕ → List ℕ → List ℕ → Type 0
RoundOn n s k =
    round_sum ((6 - n) % 4) (map (inverse_product 0x0e) (rotated_rows n s)) (map (inverse_product 0x0b) (rotated_rows n s)) (map (inverse_product 0x0d) (rotated_rows n s)) (map (inverse_product 0x09) (rotated_rows n s))
    (map in_inverse_basis (rotated_rows ((n + 1) % 4) (inverse_mix_columns k)))
    ≡ map in_inverse_basis (rotated_rows ((n + 1) % 4) (inverse_mix_columns (zip2 bit_xor (inverse_substitute_bytes (inverse_shift_rows s)) k)))

-- the lane of these bytes of the state and of the key
at : (s k : List ℕ) → IsBlock s → IsBlock k → (a b c d e f g h : ℕ) →
    bit_xor (bit_xor (inverse_product 0x0e (slice_index s a)) (in_inverse_basis (mixed 0x0e 0x0b 0x0d 0x09 (slice_index k e) (slice_index k f) (slice_index k g) (slice_index k h))))
    (bit_xor (inverse_product 0x0b (slice_index s b)) (bit_xor (inverse_product 0x0d (slice_index s c)) (inverse_product 0x09 (slice_index s d))))
    ≡ in_inverse_basis (mixed 0x0e 0x0b 0x0d 0x09 (bit_xor (inverse_substitute_byte (slice_index s a)) (slice_index k e)) (bit_xor (inverse_substitute_byte (slice_index s b)) (slice_index k f))
    (bit_xor (inverse_substitute_byte (slice_index s c)) (slice_index k g)) (bit_xor (inverse_substitute_byte (slice_index s d)) (slice_index k h)))
at s k sb kb a b c d e f g h = lane (slice_index s a) (slice_index s b) (slice_index s c) (slice_index s d) (slice_index k e) (slice_index k f) (slice_index k g) (slice_index k h)
    (sb.bytes a) (sb.bytes b) (sb.bytes c) (sb.bytes d) (kb.bytes e) (kb.bytes f) (kb.bytes g) (kb.bytes h)

round_0 : (s k : List ℕ) → IsBlock s → IsBlock k → RoundOn 0 s k
unfolding rotated_rows unshifted_row inverse_mix_columns inverse_shift_rows inverse_substitute_bytes
round_0 s k sb kb = as_state (λ k. RoundOn 0 s k) k kb.size (λ i.
    at s k sb kb 0 13 10 7 0 1 2 3 i ∷ at s k sb kb 1 14 11 4 5 6 7 4 i ∷ at s k sb kb 2 15 8 5 10 11 8 9 i ∷ at s k sb kb 3 12 9 6 15 12 13 14 i ∷
    at s k sb kb 4 1 14 11 4 5 6 7 i ∷ at s k sb kb 5 2 15 8 9 10 11 8 i ∷ at s k sb kb 6 3 12 9 14 15 12 13 i ∷ at s k sb kb 7 0 13 10 3 0 1 2 i ∷
    at s k sb kb 8 5 2 15 8 9 10 11 i ∷ at s k sb kb 9 6 3 12 13 14 15 12 i ∷ at s k sb kb 10 7 0 13 2 3 0 1 i ∷ at s k sb kb 11 4 1 14 7 4 5 6 i ∷
    at s k sb kb 12 9 6 3 12 13 14 15 i ∷ at s k sb kb 13 10 7 0 1 2 3 0 i ∷ at s k sb kb 14 11 4 1 6 7 4 5 i ∷ at s k sb kb 15 8 5 2 11 8 9 10 i ∷ [])

round_1 : (s k : List ℕ) → IsBlock s → IsBlock k → RoundOn 1 s k
unfolding rotated_rows unshifted_row inverse_mix_columns inverse_shift_rows inverse_substitute_bytes
round_1 s k sb kb = as_state (λ k. RoundOn 1 s k) k kb.size (λ i.
    at s k sb kb 0 13 10 7 0 1 2 3 i ∷ at s k sb kb 5 2 15 8 9 10 11 8 i ∷ at s k sb kb 10 7 0 13 2 3 0 1 i ∷ at s k sb kb 15 8 5 2 11 8 9 10 i ∷
    at s k sb kb 4 1 14 11 4 5 6 7 i ∷ at s k sb kb 9 6 3 12 13 14 15 12 i ∷ at s k sb kb 14 11 4 1 6 7 4 5 i ∷ at s k sb kb 3 12 9 6 15 12 13 14 i ∷
    at s k sb kb 8 5 2 15 8 9 10 11 i ∷ at s k sb kb 13 10 7 0 1 2 3 0 i ∷ at s k sb kb 2 15 8 5 10 11 8 9 i ∷ at s k sb kb 7 0 13 10 3 0 1 2 i ∷
    at s k sb kb 12 9 6 3 12 13 14 15 i ∷ at s k sb kb 1 14 11 4 5 6 7 4 i ∷ at s k sb kb 6 3 12 9 14 15 12 13 i ∷ at s k sb kb 11 4 1 14 7 4 5 6 i ∷ [])

round_2 : (s k : List ℕ) → IsBlock s → IsBlock k → RoundOn 2 s k
unfolding rotated_rows unshifted_row inverse_mix_columns inverse_shift_rows inverse_substitute_bytes
round_2 s k sb kb = as_state (λ k. RoundOn 2 s k) k kb.size (λ i.
    at s k sb kb 0 13 10 7 0 1 2 3 i ∷ at s k sb kb 9 6 3 12 13 14 15 12 i ∷ at s k sb kb 2 15 8 5 10 11 8 9 i ∷ at s k sb kb 11 4 1 14 7 4 5 6 i ∷
    at s k sb kb 4 1 14 11 4 5 6 7 i ∷ at s k sb kb 13 10 7 0 1 2 3 0 i ∷ at s k sb kb 6 3 12 9 14 15 12 13 i ∷ at s k sb kb 15 8 5 2 11 8 9 10 i ∷
    at s k sb kb 8 5 2 15 8 9 10 11 i ∷ at s k sb kb 1 14 11 4 5 6 7 4 i ∷ at s k sb kb 10 7 0 13 2 3 0 1 i ∷ at s k sb kb 3 12 9 6 15 12 13 14 i ∷
    at s k sb kb 12 9 6 3 12 13 14 15 i ∷ at s k sb kb 5 2 15 8 9 10 11 8 i ∷ at s k sb kb 14 11 4 1 6 7 4 5 i ∷ at s k sb kb 7 0 13 10 3 0 1 2 i ∷ [])

round_3 : (s k : List ℕ) → IsBlock s → IsBlock k → RoundOn 3 s k
unfolding rotated_rows unshifted_row inverse_mix_columns inverse_shift_rows inverse_substitute_bytes
round_3 s k sb kb = as_state (λ k. RoundOn 3 s k) k kb.size (λ i.
    at s k sb kb 0 13 10 7 0 1 2 3 i ∷ at s k sb kb 13 10 7 0 1 2 3 0 i ∷ at s k sb kb 10 7 0 13 2 3 0 1 i ∷ at s k sb kb 7 0 13 10 3 0 1 2 i ∷
    at s k sb kb 4 1 14 11 4 5 6 7 i ∷ at s k sb kb 1 14 11 4 5 6 7 4 i ∷ at s k sb kb 14 11 4 1 6 7 4 5 i ∷ at s k sb kb 11 4 1 14 7 4 5 6 i ∷
    at s k sb kb 8 5 2 15 8 9 10 11 i ∷ at s k sb kb 5 2 15 8 9 10 11 8 i ∷ at s k sb kb 2 15 8 5 10 11 8 9 i ∷ at s k sb kb 15 8 5 2 11 8 9 10 i ∷
    at s k sb kb 12 9 6 3 12 13 14 15 i ∷ at s k sb kb 9 6 3 12 13 14 15 12 i ∷ at s k sb kb 6 3 12 9 14 15 12 13 i ∷ at s k sb kb 3 12 9 6 15 12 13 14 i ∷ [])

pub inverse_round_on : (n : ℕ) → n < 4 → (s k : List ℕ) → IsBlock s → IsBlock k → RoundOn n s k
inverse_round_on = of_four (λ n. (s k : List ℕ) → IsBlock s → IsBlock k → RoundOn n s k) round_0 round_1 round_2 round_3
