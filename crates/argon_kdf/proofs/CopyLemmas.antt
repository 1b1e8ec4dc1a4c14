-- Copies of the block of zeros, as the standard library makes them of arrays.
use Rattle.std.proofs.Common.{◌≡◌, ℕ, List, replicate, arith}
use Rattle.std.specs.Array.{AllZipBelow}
use Rattle.std.proofs.lemmas.List.{same_lists}

-- a copy of the block of zeros is the block of zeros
pub copied : (y : List ℕ) → AllZipBelow (λ (a b : ℕ). b ≡ a) (replicate 128 0) y 128 → y ≡ replicate 128 0
copied y h = same_lists y (replicate 128 0) h.long (λ k d low. h.at k d d (omega (arith, h.long)))
