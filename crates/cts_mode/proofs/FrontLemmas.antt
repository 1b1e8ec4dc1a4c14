-- An in-place loop over blocks, if only the blocks within the text are known to be whole.
use Rattle.std.proofs.Common.{◌≡◌, ℕ, zero, suc, ◌+◌, ◌*◌, ◌<◌, List, ◌++◌, length, take, drop, ap, sym, ◌∙◌, arith, length-append, append_assoc, mul-zero}
use Rattle.std.proofs.lemmas.List.{take_at, drop_at, drop-drop}
use Rattle.std.proofs.Math.Nat.{mul-suc}
use borrow.Rule.Slice.PartMut.{put_mid}
use Rattle.byte_words.specs.Blocks.{block_at, first_blocks}
use Rattle.byte_words.proofs.BlockLemmas.{first_blocks_more, next_end}

pub length_front : (size : ℕ) (f : ℕ → List ℕ) (n : ℕ) → ((j : ℕ) → j < n → length (f j) ≡ size) → length (first_blocks f n) ≡ size * n
unfolding first_blocks
length_front size f zero sizes = sym (mul-zero size)
length_front size f (suc n) sizes =
    let before : length (first_blocks f n) ≡ size * n = length_front size f n (λ j low. sizes j (omega arith)) in
    length-append (first_blocks f n) (f n) ∙ (λ i. before i + sizes n (omega arith) i) ∙ sym (mul-suc size n)

pub read_front : (size : ℕ) (f : ℕ → List ℕ) (n : ℕ) (xs was : List ℕ) → length (first_blocks f n) ≡ size * n → xs ≡ first_blocks f n ++ drop (size * n) was → block_at size xs n ≡ block_at size was n
unfolding block_at
read_front size f n xs was front now =
    ap (λ ys. take size (drop (size * n) ys)) now ∙ ap (λ ys. take size ys) (drop_at (first_blocks f n) (drop (size * n) was) (size * n) front)

pub write_front : (size : ℕ) (f : ℕ → List ℕ) (n at count : ℕ) (xs was ys : List ℕ) → length (first_blocks f n) ≡ size * n → at ≡ size * n → count ≡ size → xs ≡ first_blocks f n ++ drop (size * n) was → ys ≡ f n → put_mid at count xs ys ≡ first_blocks f (n + 1) ++ drop (size * (n + 1)) was
write_front size f n at count xs was ys whole begins counts now is =
    let front : length (first_blocks f n) ≡ at = whole ∙ sym begins in
    let before : take at xs ≡ first_blocks f n = ap (λ zs. take at zs) now ∙ take_at (first_blocks f n) (drop (size * n) was) at front in
    let after : drop at xs ≡ drop (size * n) was = ap (λ zs. drop at zs) now ∙ drop_at (first_blocks f n) (drop (size * n) was) at front in
    let end : size * n + count ≡ size * (n + 1) = ap (λ k. size * n + k) counts ∙ sym (next_end size n) in
    let rest : drop count (drop at xs) ≡ drop (size * (n + 1)) was =
    ap (λ zs. drop count zs) after ∙ drop-drop count (size * n) was ∙ ap (λ k. drop k was) end in
    (λ i. before i ++ (is i ++ rest i)) ∙ sym (append_assoc (first_blocks f n) (f n) (drop (size * (n + 1)) was))
    ∙ ap (λ zs. zs ++ drop (size * (n + 1)) was) (sym (first_blocks_more f n))
