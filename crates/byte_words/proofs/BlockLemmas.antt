-- Lemmas on the blocks of a list.
use Rattle.std.proofs.Common.{◌≡◌, ℕ, zero, suc, ◌+◌, ◌*◌, ◌-◌, ◌≤◌, ◌<◌, List, [], ◌∷◌, ◌++◌, length, take, drop, map, get_or, refl, ap, sym, ◌∙◌, arith, add-one, length-append, length-drop, mul-zero, inl, inr}
use Rattle.std.proofs.lemmas.List.{take_all, drop_at, length-take-le, take-append-le, drop-append-le, flat_map_more}
use Rattle.std.proofs.lemmas.List.FromFn.{length-map-range_with_len, map-range_with_len_more, get_or-map-range_with_len}
use Rattle.std.proofs.lemmas.Bool.{cases_eq}
use Rattle.std.proofs.lemmas.Grind.{div_ceil_times}
use Rattle.std.proofs.Math.Nat.{mul-suc, mul_comm, mul-le-mul_left}
use Rattle.std.proofs.Math.Seq.{take-add}
use Rattle.std.specs.List.{range_with_len, between, flat_map}
use Rattle.std.specs.Int.{div_ceil}
use Rattle.byte_words.specs.Blocks.{block_at, blocks_of, first_blocks}

-- the end of block n is the beginning of block n + 1
pub next_end : (size n : ℕ) → size * (n + 1) ≡ size * n + size
next_end size n = rw (add-one) (mul-suc size n)

-- a block before n ends at the beginning of block n, or before it
pub block_end_le : (size j n : ℕ) → j < n → size * j + size ≤ size * n
block_end_le size j n below =
    let product : size * (j + 1) ≤ size * n = mul-le-mul_left size (omega arith) in
    rw (← next_end size j) product

pub first_blocks_more : {A : Type 0} (f : ℕ → List A) (n : ℕ) → first_blocks f (n + 1) ≡ first_blocks f n ++ f n
unfolding first_blocks
first_blocks_more f n = rw add-one refl

-- the blocks below the count have one size: theirs is the sum of the sizes
pub length-first_blocks_below : {A : Type 0} (size : ℕ) (f : ℕ → List A) (n : ℕ) → ((j : ℕ) → j < n → length (f j) ≡ size) → length (first_blocks f n) ≡ size * n
unfolding first_blocks
length-first_blocks_below size f zero sizes = sym (mul-zero size)
length-first_blocks_below size f (suc n) sizes =
    let before : length (first_blocks f n) ≡ size * n = length-first_blocks_below size f n (λ j low. sizes j (omega arith)) in
    let last : length (f n) ≡ size = sizes n (omega arith) in
    let sum : length (first_blocks f n ++ f n) ≡ length (first_blocks f n) + length (f n) = length-append _ _ in
    sum ∙ (λ i. before i + last i) ∙ sym (mul-suc size n)

pub length-first_blocks : {A : Type 0} (size : ℕ) (f : ℕ → List A) (n : ℕ) → ((j : ℕ) → length (f j) ≡ size) → length (first_blocks f n) ≡ size * n
length-first_blocks size f n sizes = length-first_blocks_below size f n (λ j low. sizes j)

-- equal blocks make equal lists
pub first_blocks_same : {A : Type 0} (f g : ℕ → List A) (n : ℕ) → ((j : ℕ) → j < n → f j ≡ g j) → first_blocks f n ≡ first_blocks g n
unfolding first_blocks
first_blocks_same f g zero same = refl
first_blocks_same f g (suc n) same =
    let before : first_blocks f n ≡ first_blocks g n = first_blocks_same f g n (λ j low. same j (omega arith)) in
    (λ i. before i ++ same n (omega arith) i)

-- block j of the first n blocks is f j, if those below n have one size
pub block_at-first_blocks_below : {A : Type 0} (size : ℕ) (f : ℕ → List A) (n j : ℕ) → ((j : ℕ) → j < n → length (f j) ≡ size) → j < n → block_at size (first_blocks f n) j ≡ f j
unfolding block_at first_blocks
block_at-first_blocks_below size f zero j sizes low = absurd (omega arith)
block_at-first_blocks_below size f (suc n) j sizes low =
    let earlier : (j : ℕ) → j < n → length (f j) ≡ size = λ j low. sizes j (omega arith) in
    let last : length (f n) ≡ size = sizes n (omega arith) in
    let front : length (first_blocks f n) ≡ size * n = length-first_blocks_below size f n earlier in
    elim (cases_eq j n) [
      | inl same ↦
          ap (λ k. take size (drop (size * k) (first_blocks f n ++ f n))) same
          ∙ ap (λ ys. take size ys) (drop_at (first_blocks f n) (f n) (size * n) front)
          ∙ take_all size (f n) (omega arith) ∙ ap f (sym same)
      | inr other ↦
          let below : j < n = omega arith in
          let fits : size * j + size ≤ size * n = block_end_le size j n below in
          let inner : size ≤ length (drop (size * j) (first_blocks f n)) = rw (length-drop (size * j) (first_blocks f n)) (omega arith) in
          ap (λ ys. take size ys) (drop-append-le (size * j) (first_blocks f n) (f n) (omega arith))
          ∙ take-append-le size (drop (size * j) (first_blocks f n)) (f n) inner
          ∙ block_at-first_blocks_below size f n j earlier below
    ]

pub block_at-first_blocks : {A : Type 0} (size : ℕ) (f : ℕ → List A) (n j : ℕ) → ((j : ℕ) → length (f j) ≡ size) → j < n → block_at size (first_blocks f n) j ≡ f j
block_at-first_blocks size f n j sizes low = block_at-first_blocks_below size f n j (λ j low. sizes j) low

-- a block that is within the list is whole
pub length-block_at : {A : Type 0} (size : ℕ) (xs : List A) (j : ℕ) → size * j + size ≤ length xs → length (block_at size xs j) ≡ size
unfolding block_at
length-block_at size xs j within =
    let left : length (drop (size * j) xs) ≡ length xs - size * j = length-drop (size * j) xs in
    length-take-le size (drop (size * j) xs) (omega arith)

-- a part of a slice that is a block
pub between-block_at : {A : Type 0} (size : ℕ) (xs : List A) (j from to : ℕ) → from ≡ size * j → to ≡ size * j + size → between from to xs ≡ block_at size xs j
unfolding block_at
between-block_at size xs j from to begins ends =
    let count : to - from ≡ size = omega arith in
    (λ i. take (count i) (drop (begins i) xs))

-- the first blocks of a list are its beginning
pub first_blocks-block_at : {A : Type 0} (size : ℕ) (xs : List A) (n : ℕ) → first_blocks (block_at size xs) n ≡ take (size * n) xs
unfolding first_blocks block_at
first_blocks-block_at size xs zero = rw (mul-zero size) refl
first_blocks-block_at size xs (suc n) =
    ap (λ ys. ys ++ take size (drop (size * n) xs)) (first_blocks-block_at size xs n) ∙ sym (take-add (size * n) size xs) ∙ ap (λ k. take k xs) (sym (mul-suc size n))

-- a list of whole blocks is its blocks
pub first_blocks-whole : {A : Type 0} (size : ℕ) (xs : List A) (n : ℕ) → length xs ≡ size * n → first_blocks (block_at size xs) n ≡ xs
first_blocks-whole size xs n whole = first_blocks-block_at size xs n ∙ take_all (size * n) xs (omega arith)

pub first_blocks_is : {A : Type 0} (f : ℕ → List A) (n : ℕ) → first_blocks f n ≡ flat_map (λ x. x) (map f (range_with_len 0 n))
unfolding first_blocks
first_blocks_is f zero = refl
first_blocks_is f (suc n) =
    let more : map f (range_with_len 0 (n + 1)) ≡ map f (range_with_len 0 n) ++ f n ∷ [] = map-range_with_len_more f 0 n n (omega arith) in
    let next : n + 1 ≡ suc n = omega arith in
    ap (λ ys. ys ++ f n) (first_blocks_is f n) ∙ flat_map_more (λ x. x) [] (map f (range_with_len 0 n)) (f n)
    ∙ ap (λ xs. flat_map (λ x. x) xs) (sym more) ∙ ap (λ k. flat_map (λ x. x) (map f (range_with_len 0 k))) next

pub length-blocks_of : {A : Type 0} (size : ℕ) (xs : List A) → length (blocks_of size xs) ≡ div_ceil (length xs) size
unfolding blocks_of
length-blocks_of size xs = length-map-range_with_len (block_at size xs) 0 (div_ceil (length xs) size)

pub get_or-blocks_of : {A : Type 0} (size : ℕ) (xs : List A) (j : ℕ) (d : List A) → j < div_ceil (length xs) size → get_or (blocks_of size xs) j d ≡ block_at size xs j
unfolding blocks_of
get_or-blocks_of size xs j d low = get_or-map-range_with_len (block_at size xs) 0 (div_ceil (length xs) size) j j d low (omega arith)

-- the pieces of a list, joined, are the list
pub joined-blocks_of : {A : Type 0} (size : ℕ) (xs : List A) → 0 < size → flat_map (λ x. x) (blocks_of size xs) ≡ xs
unfolding blocks_of
joined-blocks_of size xs some =
    sym (first_blocks_is (block_at size xs) (div_ceil (length xs) size)) ∙ first_blocks-block_at size xs (div_ceil (length xs) size)
    ∙ take_all (size * div_ceil (length xs) size) xs (omega (arith, div_ceil_times (length xs) size some, mul_comm size (div_ceil (length xs) size)))
