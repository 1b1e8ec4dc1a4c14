-- States whose rows are not shifted yet, as the code has them between rounds. These definitions describe
-- the code and not the standard.
use Rattle.std.specs.Prelude.{ℕ, ◌+◌, ◌*◌, List, map, bit_xor}
use Rattle.std.specs.Simd.Lanes.{zip2}
use Rattle.aes_core.specs.Field.{times_x}
use Rattle.aes_core.specs.Steps.{cell, state_of}

-- each row rotated to the left by its number, n times, as n shifts of rows do
unfoldable pub rotated_rows : ℕ → List ℕ → List ℕ
rotated_rows n s = state_of (λ r c. cell s r (c + n * r))

-- in each column the byte m rows on, if n shifts of rows and one more are left out
unfoldable pub unshifted_row : ℕ → ℕ → List ℕ → List ℕ
unshifted_row m n s = state_of (λ r c. cell s (r + m) (c + m * (n + 1)))

-- columns mixed, and mixed back, if n shifts of rows and one more are left out
unfoldable pub unshifted_mix : ℕ → List ℕ → List ℕ
unshifted_mix n s =
    let next = unshifted_row 1 n s in
    let sum = zip2 bit_xor s next in
    zip2 bit_xor (zip2 bit_xor (map times_x sum) next) (unshifted_row 2 n sum)

unfoldable pub unshifted_inverse_mix : ℕ → List ℕ → List ℕ
unshifted_inverse_mix n s =
    let sum = zip2 bit_xor s (unshifted_row 2 n s) in
    unshifted_mix n (zip2 bit_xor s (map times_x (map times_x sum)))
