-- The invariant of an in-place loop over blocks: the first blocks are replaced, the rest is unchanged.
use Rattle.std.proofs.Common.{◌≡◌, ℕ, ◌+◌, ◌*◌, ◌≤◌, ◌<◌, List, ◌++◌, length, take, drop, refl, ap, sym, ◌∙◌, append_assoc, mul-zero}
use Rattle.std.proofs.lemmas.List.{append-nil, take_at, drop_at, drop-drop, drop_all}
use borrow.Rule.Slice.PartMut.{put_mid}
use Rattle.byte_words.specs.Blocks.{block_at, first_blocks}
use Rattle.byte_words.proofs.BlockLemmas.{first_blocks_more, length-first_blocks_below, next_end}

-- nothing is replaced yet
pub none_in_place : {A : Type 0} (size : ℕ) (f : ℕ → List A) (xs : List A) → xs ≡ first_blocks f 0 ++ drop (size * 0) xs
unfolding first_blocks
none_in_place size f xs = rw (mul-zero size) refl

-- the next block is still the one that was passed, if the blocks before it have one size
pub read_in_place_below : {A : Type 0} (size : ℕ) (f : ℕ → List A) (n : ℕ) (xs was : List A) → ((j : ℕ) → j < n → length (f j) ≡ size) →
    xs ≡ first_blocks f n ++ drop (size * n) was → block_at size xs n ≡ block_at size was n
unfolding block_at
read_in_place_below size f n xs was sizes now =
    let front : length (first_blocks f n) ≡ size * n = length-first_blocks_below size f n sizes in
    ap (λ ys. take size (drop (size * n) ys)) now ∙ ap (λ ys. take size ys) (drop_at (first_blocks f n) (drop (size * n) was) (size * n) front)

pub read_in_place : {A : Type 0} (size : ℕ) (f : ℕ → List A) (n : ℕ) (xs was : List A) → ((j : ℕ) → length (f j) ≡ size) →
    xs ≡ first_blocks f n ++ drop (size * n) was → block_at size xs n ≡ block_at size was n
read_in_place size f n xs was sizes now = read_in_place_below size f n xs was (λ j low. sizes j) now

-- The next block is replaced: `at` and `count` are its beginning and its length, as a goal has them.
pub write_in_place_below : {A : Type 0} (size : ℕ) (f : ℕ → List A) (n at count : ℕ) (xs was ys : List A) → ((j : ℕ) → j < n → length (f j) ≡ size) →
    at ≡ size * n → count ≡ size → xs ≡ first_blocks f n ++ drop (size * n) was → ys ≡ f n →
    put_mid at count xs ys ≡ first_blocks f (n + 1) ++ drop (size * (n + 1)) was
write_in_place_below size f n at count xs was ys sizes begins counts now is =
    let front : length (first_blocks f n) ≡ at = length-first_blocks_below size f n sizes ∙ sym begins in
    let before : take at xs ≡ first_blocks f n = ap (λ zs. take at zs) now ∙ take_at (first_blocks f n) (drop (size * n) was) at front in
    let after : drop at xs ≡ drop (size * n) was = ap (λ zs. drop at zs) now ∙ drop_at (first_blocks f n) (drop (size * n) was) at front in
    let end : size * n + count ≡ size * (n + 1) = ap (λ k. size * n + k) counts ∙ sym (next_end size n) in
    let rest : drop count (drop at xs) ≡ drop (size * (n + 1)) was =
    ap (λ zs. drop count zs) after ∙ drop-drop count (size * n) was ∙ ap (λ k. drop k was) end in
    (λ i. before i ++ (is i ++ rest i)) ∙ sym (append_assoc (first_blocks f n) (f n) (drop (size * (n + 1)) was))
    ∙ ap (λ zs. zs ++ drop (size * (n + 1)) was) (sym (first_blocks_more f n))

pub write_in_place : {A : Type 0} (size : ℕ) (f : ℕ → List A) (n at count : ℕ) (xs was ys : List A) → ((j : ℕ) → length (f j) ≡ size) →
    at ≡ size * n → count ≡ size → xs ≡ first_blocks f n ++ drop (size * n) was → ys ≡ f n →
    put_mid at count xs ys ≡ first_blocks f (n + 1) ++ drop (size * (n + 1)) was
write_in_place size f n at count xs was ys sizes begins counts now is =
    write_in_place_below size f n at count xs was ys (λ j low. sizes j) begins counts now is

-- every block is replaced
pub all_in_place : {A : Type 0} (size : ℕ) (f : ℕ → List A) (n : ℕ) (xs was : List A) → xs ≡ first_blocks f n ++ drop (size * n) was →
    length was ≤ size * n → xs ≡ first_blocks f n
all_in_place size f n xs was now short = now ∙ ap (λ ys. first_blocks f n ++ ys) (drop_all (size * n) was short) ∙ append-nil (first_blocks f n)
