-- The contents of a file as a list of bytes: a piece that is written into them, and a piece that is read.
use Rattle.std.specs.Prelude.{ℕ, ◌+◌, List, [], ◌∷◌, ◌++◌, length, take, drop}
use Rattle.byte_words.specs.Xor.{zero_filled}

-- the list with its elements from a place on replaced by the piece, and longer if the piece goes past its
-- end
unfoldable pub spliced : List ℕ → ℕ → List ℕ → List ℕ
spliced xs at piece = take at xs ++ (piece ++ drop (at + length piece) xs)

-- the contents after bytes were written from a place on: a gap before them is zeros, and writing no bytes
-- changes nothing
unfoldable pub with_bytes : ℕ → List ℕ → List ℕ → List ℕ
with_bytes at [] contents = contents
with_bytes at (b ∷ bs) contents = spliced (zero_filled at contents) at (b ∷ bs)

-- at most `count` bytes from a place on, up to the end of the contents
unfoldable pub bytes_from : ℕ → ℕ → List ℕ → List ℕ
bytes_from at count contents = take count (drop at contents)
