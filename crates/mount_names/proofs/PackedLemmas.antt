-- Names stored one after another: one more, and the first of them.
use Rattle.std.proofs.Common.{◌≡◌, ℕ, ◌≤◌, List, [], ◌∷◌, ◌++◌, length, take, drop, refl, ap, ◌∙◌, arith}
use Rattle.std.specs.List.{sum}
use Rattle.std.proofs.lemmas.List.{drop-append-le, length-drop, take-append-le, take_all}
use Rattle.std.proofs.lemmas.List.Sums.{sum_by-cons}
use Rattle.plain_tree.specs.Nodes.{Name}
use Rattle.mount_names.specs.PackedNames.{parts_of}

-- the first name has no more bytes than there are, and the others have the rest
pub first_fits : (n : ℕ) (ns bytes : List ℕ) → sum (n ∷ ns) ≡ length bytes → n ≤ length bytes
first_fits n ns bytes size = let parts = sum_by-cons (λ (x : ℕ). x) n ns in omega arith

pub others_fit : (n : ℕ) (ns bytes : List ℕ) → sum (n ∷ ns) ≡ length bytes → sum ns ≡ length (drop n bytes)
others_fit n ns bytes size =
    let parts = sum_by-cons (λ (x : ℕ). x) n ns in
    let left = length-drop n bytes in
    omega arith

pub one_more : (ns bytes name : List ℕ) → sum ns ≡ length bytes → parts_of (ns ++ length name ∷ []) (bytes ++ name) ≡ parts_of ns bytes ++ name ∷ []
one_more [] [] name size = ap (λ (x : Name). x ∷ []) (take_all (length name) name (omega arith))
one_more [] (b ∷ bytes) name size = let none : sum [] ≡ 0 = refl in absurd (omega arith)
one_more (n ∷ ns) bytes name size =
    let fits : n ≤ length bytes = first_fits n ns bytes size in
    let first : take n (bytes ++ name) ≡ take n bytes = take-append-le n bytes name fits in
    let behind : parts_of (ns ++ length name ∷ []) (drop n (bytes ++ name)) ≡ parts_of ns (drop n bytes) ++ name ∷ []
    = ap (parts_of (ns ++ length name ∷ [])) (drop-append-le n bytes name fits) ∙ one_more ns (drop n bytes) name (others_fit n ns bytes size) in
    λ i. first i ∷ behind i
