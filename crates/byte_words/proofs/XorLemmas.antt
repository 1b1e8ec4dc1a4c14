-- Lemmas on `xor_bytes` and `zero_filled`.
use Rattle.std.proofs.Common.{◌≡◌, ℕ, zero, suc, ◌+◌, ◌-◌, ◌≤◌, ◌<◌, List, [], ◌∷◌, ◌++◌, length, take, drop, get_or, set, replicate, refl, ap, ◌∙◌, arith, add-one, length-append}
use Rattle.std.proofs.lemmas.List.{append-nil, length-replicate, take_at}
use Rattle.std.proofs.lemmas.Nat.{xor_comm, xor_of_8}
use Rattle.std.specs.Prelude.{bit_xor}
use Rattle.std.specs.Int.Bits.{xor_self, xor_zero_r, xor_assoc}
use Rattle.byte_words.specs.Xor.{xor_bytes, zero_filled}

pub length-xor_bytes : (xs ys : List ℕ) → length xs ≡ length ys → length (xor_bytes xs ys) ≡ length xs
unfolding xor_bytes
length-xor_bytes [] ys same = refl
length-xor_bytes (x ∷ xs) [] same = absurd (omega arith)
length-xor_bytes (x ∷ xs) (y ∷ ys) same =
    let rest : length xs ≡ length ys = omega arith in ap suc (length-xor_bytes xs ys rest)

pub get_or-xor_bytes : (xs ys : List ℕ) (i : ℕ) → i < length xs → i < length ys → get_or (xor_bytes xs ys) i 0 ≡ bit_xor (get_or xs i 0) (get_or ys i 0)
unfolding xor_bytes
get_or-xor_bytes [] ys i low lower = absurd (omega arith)
get_or-xor_bytes (x ∷ xs) [] i low lower = absurd (omega arith)
get_or-xor_bytes (x ∷ xs) (y ∷ ys) zero low lower = refl
get_or-xor_bytes (x ∷ xs) (y ∷ ys) (suc i) low lower =
    let l : i < length xs = omega arith in let m : i < length ys = omega arith in get_or-xor_bytes xs ys i l m

-- the order of the two does not matter
pub xor_bytes_comm : (xs ys : List ℕ) → xor_bytes xs ys ≡ xor_bytes ys xs
unfolding xor_bytes
xor_bytes_comm [] [] = refl
xor_bytes_comm [] (y ∷ ys) = refl
xor_bytes_comm (x ∷ xs) [] = refl
xor_bytes_comm (x ∷ xs) (y ∷ ys) = (λ i. xor_comm x y i ∷ xor_bytes_comm xs ys i)

-- xor with the same list twice gives the list back
pub xor_bytes_twice : (xs ys : List ℕ) → length xs ≡ length ys → xor_bytes (xor_bytes xs ys) ys ≡ xs
unfolding xor_bytes
xor_bytes_twice [] ys same = refl
xor_bytes_twice (x ∷ xs) [] same = absurd (omega arith)
xor_bytes_twice (x ∷ xs) (y ∷ ys) same =
    let rest : length xs ≡ length ys = omega arith in
    let here : bit_xor (bit_xor x y) y ≡ x = xor_assoc x y y ∙ ap (λ z. bit_xor x z) (xor_self y) ∙ xor_zero_r x in
    (λ i. here i ∷ xor_bytes_twice xs ys rest i)

-- bytes stay bytes
pub xor_bytes-lt : (xs ys : List ℕ) → ((i : ℕ) → get_or xs i 0 < 256) → ((i : ℕ) → get_or ys i 0 < 256) → (i : ℕ) → get_or (xor_bytes xs ys) i 0 < 256
unfolding xor_bytes
xor_bytes-lt [] ys xb yb i = xb i
xor_bytes-lt (x ∷ xs) [] xb yb i = yb i
xor_bytes-lt (x ∷ xs) (y ∷ ys) xb yb zero = xor_of_8 x y (xb 0) (yb 0)
xor_bytes-lt (x ∷ xs) (y ∷ ys) xb yb (suc i) = xor_bytes-lt xs ys (λ k. xb (suc k)) (λ k. yb (suc k)) i

-- one step of a loop that xors ys into xs: below i the elements are xored
pub xor_bytes_more : (xs ys : List ℕ) (i : ℕ) → i < length xs → i < length ys →
    set (xor_bytes (take i xs) (take i ys) ++ drop i xs) i (bit_xor (get_or (xor_bytes (take i xs) (take i ys) ++ drop i xs) i 0) (get_or ys i 0))
    ≡ xor_bytes (take (suc i) xs) (take (suc i) ys) ++ drop (suc i) xs
unfolding xor_bytes
xor_bytes_more [] ys i low lower = absurd (omega arith)
xor_bytes_more (x ∷ xs) [] i low lower = absurd (omega arith)
xor_bytes_more (x ∷ xs) (y ∷ ys) zero low lower = refl
xor_bytes_more (x ∷ xs) (y ∷ ys) (suc i) low lower =
    let l : i < length xs = omega arith in let m : i < length ys = omega arith in ap (λ zs. bit_xor x y ∷ zs) (xor_bytes_more xs ys i l m)

-- the same, of the list as the loop has it
pub xor_bytes_step : (xs ys now : List ℕ) (i : ℕ) → i < length xs → i < length ys → now ≡ xor_bytes (take i xs) (take i ys) ++ drop i xs →
    set now i (bit_xor (get_or now i 0) (get_or ys i 0)) ≡ xor_bytes (take (i + 1) xs) (take (i + 1) ys) ++ drop (i + 1) xs
xor_bytes_step xs ys now i low lower is =
    ap (λ zs. set zs i (bit_xor (get_or zs i 0) (get_or ys i 0))) is ∙ rw add-one (xor_bytes_more xs ys i low lower)

pub length-zero_filled : (size : ℕ) (xs : List ℕ) → length xs ≤ size → length (zero_filled size xs) ≡ size
unfolding zero_filled
length-zero_filled size xs short =
    length-append xs (replicate (size - length xs) 0) ∙ ap (λ k. length xs + k) (length-replicate {A = ℕ} (size - length xs) 0) ∙ omega arith

-- the zeros are after the list itself
pub take-zero_filled : (size : ℕ) (xs : List ℕ) → take (length xs) (zero_filled size xs) ≡ xs
unfolding zero_filled
take-zero_filled size xs = take_at xs (replicate (size - length xs) 0) (length xs) refl

pub zero_filled_full : (size : ℕ) (xs : List ℕ) → size ≤ length xs → zero_filled size xs ≡ xs
unfolding zero_filled
zero_filled_full size xs full =
    let none : size - length xs ≡ 0 = omega arith in ap (λ k. xs ++ replicate k 0) none ∙ append-nil xs
