-- The chain of digests of H', as it is written into 1,024 bytes.
use Rattle.std.proofs.Common.{◌≡◌, ℕ, ◌+◌, ◌*◌, ◌≤◌, List, [], ◌++◌, length, take, drop, refl, sym, ap, ◌∙◌}
use Rattle.std.proofs.Common.{arith, add-one, append_assoc, length-append, length-drop}
use Rattle.std.proofs.lemmas.List.{take_at, drop_all, append-nil, length-take-le}
use Rattle.blake2_core.specs.Digest.{blake2b_digest}
use Rattle.argon_kdf.specs.LongDigest.{chained_digest, first_halves, long_digest}
use borrow.Rule.Slice.PartMut.{put_mid, post_of}

pub chained_next : (len : ℕ) (m : List ℕ) (n : ℕ)
    → chained_digest len m (n + 1) ≡ blake2b_digest 64 (chained_digest len m n)
unfolding chained_digest
chained_next len m n = rw add-one refl

first_halves_next : (len : ℕ) (m : List ℕ) (n : ℕ)
    → first_halves len m (n + 1) ≡ first_halves len m n ++ take 32 (chained_digest len m n)
unfolding first_halves
first_halves_next len m n = rw add-one refl

pub first_halves_none : (len : ℕ) (m : List ℕ) → first_halves len m 0 ≡ []
unfolding first_halves
first_halves_none len m = refl

-- a half more
pub halves_more : (m bytes now value : List ℕ) (i : ℕ) → 32 * i + 32 ≤ length bytes → length value ≡ 64
    → take (32 * i) bytes ≡ first_halves 1024 m i → value ≡ chained_digest 1024 m i
    → now ≡ take (32 * i) bytes ++ (take 32 value ++ drop (32 * i + 32) bytes)
    → take (32 * (i + 1)) now ≡ first_halves 1024 m (i + 1)
halves_more m bytes now value i fits long before at written =
    let half : length (take 32 value) ≡ 32 = length-take-le 32 value (omega arith) in
    let front : length (take (32 * i) bytes ++ take 32 value) ≡ 32 * (i + 1) =
    omega (
      arith,
      half,
      length-append (take (32 * i) bytes) (take 32 value),
      length-take-le (32 * i) bytes (omega arith),
    ) in
    rw (written, ← append_assoc)
    (take_at (take (32 * i) bytes ++ take 32 value) (drop (32 * i + 32) bytes) (32 * (i + 1)) front
    ∙ rw (before, at) (sym (first_halves_next 1024 m i)))

-- all of the bytes
pub halves_whole : (m : List ℕ) → first_halves 1024 m 30 ++ chained_digest 1024 m 30 ≡ long_digest 1024 m
unfolding long_digest
halves_whole m = ap (λ (last : List ℕ). first_halves 1024 m 30 ++ last) (chained_next 1024 m 29)

-- a write to the end of the bytes
pub write_end : (bytes ys value : List ℕ) → length bytes ≡ 1024 → ys ≡ value
    → put_mid 960 64 bytes ys ≡ take 960 bytes ++ value
write_end bytes ys value long same =
    let rest : post_of 960 64 bytes ≡ [] = drop_all 64 (drop 960 bytes)
    (omega (arith, length-drop 960 bytes)) in
    rw (rest, append-nil, same) refl
