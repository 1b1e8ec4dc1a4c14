-- The mixing function G, and rounds of it on the work vector (RFC 7693, 3.1 and 3.2).
use Rattle.std.specs.Prelude.{ℕ, zero, suc, List, [], ◌∷◌, bit_xor, slice_index}
use Rattle.std.specs.Int.{w64, rotate_right}
use Rattle.blake2_core.specs.Words.{word_sum}
use Rattle.blake2_core.specs.Constants.{word_number}

-- G: four words of the work vector, and two of the message (3.1)
unfoldable pub mixed : ℕ → ℕ → ℕ → ℕ → ℕ → ℕ → List ℕ
mixed a b c d x y =
    let a1 = word_sum (word_sum a b) x in
    let d1 = rotate_right w64 (bit_xor d a1) 32 in
    let c1 = word_sum c d1 in
    let b1 = rotate_right w64 (bit_xor b c1) 24 in
    let a2 = word_sum (word_sum a1 b1) y in
    let d2 = rotate_right w64 (bit_xor d1 a2) 16 in
    let c2 = word_sum c1 d2 in
    let b2 = rotate_right w64 (bit_xor b1 c2) 63 in
    a2 ∷ b2 ∷ c2 ∷ d2 ∷ []

-- a round on the work vector v, in four rows of four: G on each column, then on each diagonal (3.2)
unfoldable pub mixed_round : List ℕ → List ℕ → ℕ → List ℕ
mixed_round words v r =
    let word = λ (turn : ℕ). slice_index words (word_number r turn) in
    let p = mixed (slice_index v 0) (slice_index v 4) (slice_index v 8) (slice_index v 12)
    (word 0) (word 1) in
    let q = mixed (slice_index v 1) (slice_index v 5) (slice_index v 9) (slice_index v 13)
    (word 2) (word 3) in
    let s = mixed (slice_index v 2) (slice_index v 6) (slice_index v 10) (slice_index v 14)
    (word 4) (word 5) in
    let t = mixed (slice_index v 3) (slice_index v 7) (slice_index v 11) (slice_index v 15)
    (word 6) (word 7) in
    let e = mixed (slice_index p 0) (slice_index q 1) (slice_index s 2) (slice_index t 3)
    (word 8) (word 9) in
    let f = mixed (slice_index q 0) (slice_index s 1) (slice_index t 2) (slice_index p 3)
    (word 10) (word 11) in
    let g = mixed (slice_index s 0) (slice_index t 1) (slice_index p 2) (slice_index q 3)
    (word 12) (word 13) in
    let h = mixed (slice_index t 0) (slice_index p 1) (slice_index q 2) (slice_index s 3)
    (word 14) (word 15) in
    slice_index e 0 ∷ slice_index f 0 ∷ slice_index g 0 ∷ slice_index h 0
    ∷ slice_index h 1 ∷ slice_index e 1 ∷ slice_index f 1 ∷ slice_index g 1
    ∷ slice_index g 2 ∷ slice_index h 2 ∷ slice_index e 2 ∷ slice_index f 2
    ∷ slice_index f 3 ∷ slice_index g 3 ∷ slice_index h 3 ∷ slice_index e 3 ∷ []

-- the work vector after the first n rounds
unfoldable pub rounds : List ℕ → List ℕ → ℕ → List ℕ
rounds words v zero = v
rounds words v (suc n) = mixed_round words (rounds words v n) n
