-- What P makes has sixteen words.
use Rattle.std.proofs.Common.{◌≡◌, ℕ, List, [], ◌∷◌, slice_index, refl}
use Rattle.argon_kdf.specs.Permutation.{permuted}

pub permuted_words : (v : List ℕ) → slice_index (permuted v) 0 ∷ slice_index (permuted v) 1
    ∷ slice_index (permuted v) 2 ∷ slice_index (permuted v) 3 ∷ slice_index (permuted v) 4
    ∷ slice_index (permuted v) 5 ∷ slice_index (permuted v) 6 ∷ slice_index (permuted v) 7
    ∷ slice_index (permuted v) 8 ∷ slice_index (permuted v) 9 ∷ slice_index (permuted v) 10
    ∷ slice_index (permuted v) 11 ∷ slice_index (permuted v) 12 ∷ slice_index (permuted v) 13
    ∷ slice_index (permuted v) 14 ∷ slice_index (permuted v) 15 ∷ [] ≡ permuted v
unfolding permuted
permuted_words v = refl
