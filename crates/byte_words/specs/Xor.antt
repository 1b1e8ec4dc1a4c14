-- The xor of two lists of bytes, and filling a list with zeros.
use Rattle.std.specs.Prelude.{ℕ, List, [], ◌∷◌, ◌++◌, ◌-◌, length, replicate, bit_xor}

-- the xor byte by byte, as far as the shorter list goes
unfoldable pub xor_bytes : List ℕ → List ℕ → List ℕ
xor_bytes [] ys = []
xor_bytes (x ∷ xs) [] = []
xor_bytes (x ∷ xs) (y ∷ ys) = bit_xor x y ∷ xor_bytes xs ys

-- the list with zeros at its end up to the size; a longer list stays as it is
unfoldable pub zero_filled : ℕ → List ℕ → List ℕ
zero_filled size xs = xs ++ replicate (size - length xs) 0
