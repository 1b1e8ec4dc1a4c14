-- Lemmas on contents into which bytes were written, and on bytes read from them: by bytes, by length.
use Rattle.std.proofs.Common.{◌≡◌, ℕ, zero, suc, ◌+◌, ◌-◌, ◌≤◌, ◌<◌, List, [], ◌∷◌, ◌++◌, length, take, drop, get_or, replicate, refl, ap, ◌∙◌, arith, length-append, length-drop}
use Rattle.std.proofs.lemmas.List.{get_or-drop, get_or-take, get_or-append_right, get_or_append_left, length-take, length-take-le, length-replicate, take_at, drop_at}
use Rattle.std.specs.Prelude.{min, max}
use Rattle.byte_words.specs.Bytes.{AreBytes}
use Rattle.byte_words.specs.Contents.{spliced, with_bytes, bytes_from}
use Rattle.byte_words.specs.Xor.{zero_filled}
use Rattle.byte_words.proofs.AreBytesLemmas.{AreBytes-append, AreBytes-take, AreBytes-drop, AreBytes-zero_filled}

-- ---- reading a list past its end gives zeros

zeros_are_zeros : (n i : ℕ) → get_or {A = ℕ} (replicate n 0) i 0 ≡ 0
zeros_are_zeros zero i = refl
zeros_are_zeros (suc n) zero = refl
zeros_are_zeros (suc n) (suc i) = zeros_are_zeros n i

zeros_behind : (xs : List ℕ) (n i : ℕ) → get_or (xs ++ replicate n 0) i 0 ≡ get_or xs i 0
zeros_behind [] n i = zeros_are_zeros n i
zeros_behind (x ∷ xs) n zero = refl
zeros_behind (x ∷ xs) n (suc i) = zeros_behind xs n i

pub get_or-zero_filled : (size : ℕ) (xs : List ℕ) (i : ℕ) → get_or (zero_filled size xs) i 0 ≡ get_or xs i 0
unfolding zero_filled
get_or-zero_filled size xs i = zeros_behind xs (size - length xs) i

-- a filled list has the size, or its own length if that is greater
pub length-filled : (size : ℕ) (xs : List ℕ) → length (zero_filled size xs) ≡ max size (length xs)
unfolding zero_filled
length-filled size xs = length-append xs (replicate (size - length xs) 0) ∙ ap (λ k. length xs + k) (length-replicate {A = ℕ} (size - length xs) 0) ∙ omega arith

-- ---- a piece put into a list

pub length-spliced : (xs : List ℕ) (at : ℕ) (piece : List ℕ) → at ≤ length xs → length (spliced xs at piece) ≡ max (length xs) (at + length piece)
unfolding spliced
length-spliced xs at piece within =
    omega (
      arith,
      length-append (take at xs) (piece ++ drop (at + length piece) xs),
      length-append piece (drop (at + length piece) xs),
      length-take-le at xs within,
      length-drop (at + length piece) xs,
    )

pub spliced_before : (xs : List ℕ) (at : ℕ) (piece : List ℕ) (i : ℕ) → at ≤ length xs → i < at → get_or (spliced xs at piece) i 0 ≡ get_or xs i 0
unfolding spliced
spliced_before xs at piece i within before =
    let front : length (take at xs) ≡ at = length-take-le at xs within in
    get_or_append_left (take at xs) (piece ++ drop (at + length piece) xs) 0 i (omega arith) ∙ get_or-take at xs i 0 before

pub spliced_in : (xs : List ℕ) (at : ℕ) (piece : List ℕ) (i : ℕ) → at ≤ length xs → at ≤ i → i < at + length piece →
    get_or (spliced xs at piece) i 0 ≡ get_or piece (i - at) 0
unfolding spliced
spliced_in xs at piece i within from to =
    get_or-append_right (take at xs) (piece ++ drop (at + length piece) xs) at i 0 (length-take-le at xs within) from
    ∙ get_or_append_left piece (drop (at + length piece) xs) 0 (i - at) (omega arith)

pub spliced_after : (xs : List ℕ) (at : ℕ) (piece : List ℕ) (i : ℕ) → at ≤ length xs → at + length piece ≤ i → get_or (spliced xs at piece) i 0 ≡ get_or xs i 0
unfolding spliced
spliced_after xs at piece i within behind =
    let place : at + length piece + (i - at - length piece) ≡ i = omega arith in
    get_or-append_right (take at xs) (piece ++ drop (at + length piece) xs) at i 0 (length-take-le at xs within) (omega arith)
    ∙ get_or-append_right piece (drop (at + length piece) xs) (length piece) (i - at) 0 refl (omega arith)
    ∙ get_or-drop (at + length piece) xs (i - at - length piece) 0 ∙ ap (λ k. get_or xs k 0) place

pub AreBytes-spliced : (xs : List ℕ) (at : ℕ) (piece : List ℕ) → AreBytes xs → AreBytes piece → AreBytes (spliced xs at piece)
unfolding spliced
AreBytes-spliced xs at piece bytes others = AreBytes-append (take at xs) (piece ++ drop (at + length piece) xs) (AreBytes-take at xs bytes)
    (AreBytes-append piece (drop (at + length piece) xs) others (AreBytes-drop (at + length piece) xs bytes))

-- ---- bytes written into contents

-- the place at which they begin is within the contents, once a gap is filled
reached : (at : ℕ) (contents : List ℕ) → at ≤ length (zero_filled at contents)
reached at contents = omega (arith, length-filled at contents)

-- they are no shorter than the contents, and reach to the last byte that was written
pub length-with_bytes : (at : ℕ) (bytes contents : List ℕ) → 0 < length bytes → length (with_bytes at bytes contents) ≡ max (length contents) (at + length bytes)
unfolding with_bytes
length-with_bytes at [] contents some = absurd (omega arith)
length-with_bytes at (b ∷ bs) contents some =
    length-spliced (zero_filled at contents) at (b ∷ bs) (reached at contents) ∙ omega (arith, length-filled at contents)

-- a byte before them is unchanged
pub with_bytes_before : (at : ℕ) (bytes contents : List ℕ) (i : ℕ) → i < at → get_or (with_bytes at bytes contents) i 0 ≡ get_or contents i 0
unfolding with_bytes
with_bytes_before at [] contents i before = refl
with_bytes_before at (b ∷ bs) contents i before =
    spliced_before (zero_filled at contents) at (b ∷ bs) i (reached at contents) before ∙ get_or-zero_filled at contents i

-- and so is a byte after them
pub with_bytes_after : (at : ℕ) (bytes contents : List ℕ) (i : ℕ) → at + length bytes ≤ i → get_or (with_bytes at bytes contents) i 0 ≡ get_or contents i 0
unfolding with_bytes
with_bytes_after at [] contents i behind = refl
with_bytes_after at (b ∷ bs) contents i behind =
    spliced_after (zero_filled at contents) at (b ∷ bs) i (reached at contents) behind ∙ get_or-zero_filled at contents i

-- between are the bytes that were written
pub with_bytes_in : (at : ℕ) (bytes contents : List ℕ) (i : ℕ) → at ≤ i → i < at + length bytes → get_or (with_bytes at bytes contents) i 0 ≡ get_or bytes (i - at) 0
unfolding with_bytes
with_bytes_in at [] contents i from to = absurd (omega arith)
with_bytes_in at (b ∷ bs) contents i from to = spliced_in (zero_filled at contents) at (b ∷ bs) i (reached at contents) from to

pub AreBytes-with_bytes : (at : ℕ) (bytes contents : List ℕ) → AreBytes bytes → AreBytes contents → AreBytes (with_bytes at bytes contents)
unfolding with_bytes
AreBytes-with_bytes at [] contents bytes is = is
AreBytes-with_bytes at (b ∷ bs) contents bytes is =
    AreBytes-spliced (zero_filled at contents) at (b ∷ bs) (AreBytes-zero_filled at contents is) bytes

-- ---- bytes read from contents

pub length-bytes_from : (at count : ℕ) (contents : List ℕ) → length (bytes_from at count contents) ≡ min count (length contents - at)
unfolding bytes_from
length-bytes_from at count contents = length-take count (drop at contents) ∙ ap (λ k. min count k) (length-drop at contents)

pub get_or-bytes_from : (at count : ℕ) (contents : List ℕ) (i : ℕ) → i < count → get_or (bytes_from at count contents) i 0 ≡ get_or contents (at + i) 0
unfolding bytes_from
get_or-bytes_from at count contents i low = get_or-take count (drop at contents) i 0 low ∙ get_or-drop at contents i 0

pub AreBytes-bytes_from : (at count : ℕ) (contents : List ℕ) → AreBytes contents → AreBytes (bytes_from at count contents)
unfolding bytes_from
AreBytes-bytes_from at count contents is = AreBytes-take count (drop at contents) (AreBytes-drop at contents is)

-- what was written is read
pub bytes_from-with_bytes : (at : ℕ) (bytes contents : List ℕ) → bytes_from at (length bytes) (with_bytes at bytes contents) ≡ bytes
unfolding bytes_from with_bytes spliced
bytes_from-with_bytes at [] contents = refl
bytes_from-with_bytes at (b ∷ bs) contents =
    let filled : List ℕ = zero_filled at contents in
    ap (λ ys. take (length (b ∷ bs)) ys)
    (drop_at (take at filled) ((b ∷ bs) ++ drop (at + length (b ∷ bs)) filled) at (length-take-le at filled (reached at contents)))
    ∙ take_at (b ∷ bs) (drop (at + length (b ∷ bs)) filled) (length (b ∷ bs)) refl
