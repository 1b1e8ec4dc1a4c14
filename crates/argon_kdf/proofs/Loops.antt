-- Loops that write a list from its front: an element, or a piece of one length, in each turn.
use Rattle.std.proofs.Common.{◌≡◌, ℕ, ◌+◌, ◌<◌, ◌≤◌, List, [], ◌∷◌, ◌++◌, length, take, drop, slice_index}
use Rattle.std.proofs.Common.{slice_set, map, sym, ap, ◌∙◌, arith}
use Rattle.std.specs.List.{range_with_len}
use Rattle.std.proofs.lemmas.List.{append-nil, append_assoc, take_all, take_more_set, drop_all, drop_more}
use Rattle.std.proofs.lemmas.List.{set_at, get_or_at}
use Rattle.std.proofs.lemmas.List.FromFn.{length-map-range_with_len, map-range_with_len_more}

-- an element more
pub mapped_more : (f : ℕ → ℕ) (out : List ℕ) (i value : ℕ) → i < length out
    → take i out ≡ map f (range_with_len 0 i) → value ≡ f i
    → take (i + 1) (slice_set out i value) ≡ map f (range_with_len 0 (i + 1))
mapped_more f out i value within before same =
    take_more_set out i value within ∙ rw (before, same) (sym (map-range_with_len_more f 0 i i (omega arith)))

-- all of them
pub mapped_all : (f : ℕ → ℕ) (out : List ℕ) (n : ℕ) → length out ≤ n → take n out ≡ map f (range_with_len 0 n)
    → out ≡ map f (range_with_len 0 n)
mapped_all f out n long all = sym (take_all n out long) ∙ all

-- an element more, of a list that is written over
pub mapped_over_more : (f : ℕ → ℕ → ℕ) (old now : List ℕ) (i value : ℕ) → i < length old
    → now ≡ map (λ n. f n (slice_index old n)) (range_with_len 0 i) ++ drop i old
    → value ≡ f i (slice_index now i)
    → slice_set now i value ≡ map (λ n. f n (slice_index old n)) (range_with_len 0 (i + 1))
    ++ drop (i + 1) old
mapped_over_more f old now i value within before same =
    let front : List ℕ = map (λ n. f n (slice_index old n)) (range_with_len 0 i) in
    let long : length front ≡ i = length-map-range_with_len (λ n. f n (slice_index old n)) 0 i in
    let rest : drop i old ≡ slice_index old i ∷ drop (i + 1) old = drop_more old i 0 within in
    let here : now ≡ front ++ slice_index old i ∷ drop (i + 1) old =
    before ∙ ap (λ (back : List ℕ). front ++ back) rest in
    let word : slice_index now i ≡ slice_index old i =
    rw here (get_or_at front (slice_index old i) (drop (i + 1) old) 0 i long) in
    let longer : map (λ n. f n (slice_index old n)) (range_with_len 0 (i + 1))
    ≡ front ++ f i (slice_index old i) ∷ [] =
    map-range_with_len_more (λ n. f n (slice_index old n)) 0 i i (omega arith) in
    rw (same, word, here, longer, append_assoc)
    (set_at front (slice_index old i) (drop (i + 1) old) (f i (slice_index old i)) i long)

-- all of them
pub mapped_over_all : (f : ℕ → ℕ → ℕ) (old now : List ℕ) (n : ℕ) → length old ≤ n
    → now ≡ map (λ k. f k (slice_index old k)) (range_with_len 0 n) ++ drop n old
    → now ≡ map (λ k. f k (slice_index old k)) (range_with_len 0 n)
mapped_over_all f old now n long all =
    all ∙ rw (drop_all n old long) (append-nil (map (λ k. f k (slice_index old k)) (range_with_len 0 n)))
