-- The permutation P of Argon2 (RFC 9106, 3.6): BLAKE2b's round without a message, whose sums have a
-- product of the low halves added.
use Rattle.std.specs.Prelude.{ℕ, ◌+◌, ◌*◌, ◌%◌, ◌^◌, List, [], ◌∷◌, bit_xor, slice_index}
use Rattle.std.specs.Int.{w64, rotate_right}

-- a + b + 2 * trunc(a) * trunc(b), modulo 2 ^ 64
abbrev pub product_sum : ℕ → ℕ → ℕ
product_sum a b = (a + b + 2 * ((a % 2 ^ 32) * (b % 2 ^ 32))) % 2 ^ 64

-- GB on four words
unfoldable pub mixed : ℕ → ℕ → ℕ → ℕ → List ℕ
mixed a b c d =
    let a1 = product_sum a b in
    let d1 = rotate_right w64 (bit_xor d a1) 32 in
    let c1 = product_sum c d1 in
    let b1 = rotate_right w64 (bit_xor b c1) 24 in
    let a2 = product_sum a1 b1 in
    let d2 = rotate_right w64 (bit_xor d1 a2) 16 in
    let c2 = product_sum c1 d2 in
    let b2 = rotate_right w64 (bit_xor b1 c2) 63 in
    a2 ∷ b2 ∷ c2 ∷ d2 ∷ []

-- P on 16 words, in four rows of four: GB on each column, then on each diagonal
unfoldable pub permuted : List ℕ → List ℕ
permuted v =
    let p = mixed (slice_index v 0) (slice_index v 4) (slice_index v 8) (slice_index v 12) in
    let q = mixed (slice_index v 1) (slice_index v 5) (slice_index v 9) (slice_index v 13) in
    let s = mixed (slice_index v 2) (slice_index v 6) (slice_index v 10) (slice_index v 14) in
    let t = mixed (slice_index v 3) (slice_index v 7) (slice_index v 11) (slice_index v 15) in
    let e = mixed (slice_index p 0) (slice_index q 1) (slice_index s 2) (slice_index t 3) in
    let f = mixed (slice_index q 0) (slice_index s 1) (slice_index t 2) (slice_index p 3) in
    let g = mixed (slice_index s 0) (slice_index t 1) (slice_index p 2) (slice_index q 3) in
    let h = mixed (slice_index t 0) (slice_index p 1) (slice_index q 2) (slice_index s 3) in
    slice_index e 0 ∷ slice_index f 0 ∷ slice_index g 0 ∷ slice_index h 0
    ∷ slice_index h 1 ∷ slice_index e 1 ∷ slice_index f 1 ∷ slice_index g 1
    ∷ slice_index g 2 ∷ slice_index h 2 ∷ slice_index e 2 ∷ slice_index f 2
    ∷ slice_index f 3 ∷ slice_index g 3 ∷ slice_index h 3 ∷ slice_index e 3 ∷ []
