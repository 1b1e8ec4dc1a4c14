-- The parts of a path and the words that are left, one after the other.
use Rattle.std.proofs.Common.{◌≡◌, ℕ, ◌+◌, ◌<◌, ◌≤◌, List, [], ◌∷◌, ◌++◌, length, map, take, drop, get_or, Some, None, refl, ap, sym, ◌∙◌, arith, append-nil, append_assoc, take_all}
use Rattle.std.specs.Prelude.{slice_get}
use Rattle.std.proofs.lemmas.List.{take_more, map-append}
use Rattle.percent_encoding.specs.Percent.{percent_decode}

-- by one word more
pub left_more : (names words : List (List ℕ)) (w : List ℕ) (whole : List (List ℕ)) → slice_get words 0 ≡ Some w
    → names ++ map percent_decode words ≡ whole → (names ++ percent_decode w ∷ []) ++ map percent_decode (drop 1 words) ≡ whole
left_more names [] w whole here told = absurd (cc here)
left_more names (x ∷ words) w whole here told =
    let same : x ≡ w = cc here in
    append_assoc names (percent_decode w ∷ []) (map percent_decode words)
    ∙ ap (λ (y : List ℕ). names ++ (percent_decode y ∷ map percent_decode words)) (sym same) ∙ told

pub left_fewer : (words : List (List ℕ)) (w : List ℕ) → slice_get words 0 ≡ Some w → length (drop 1 words) < length words
left_fewer [] w here = absurd (cc here)
left_fewer (x ∷ words) w here = omega arith

-- past the last
pub left_none : (names words whole : List (List ℕ)) → slice_get words 0 ≡ None → names ++ map percent_decode words ≡ whole
    → (names ≡ whole) × (drop 1 words ≡ [])
left_none names [] whole none told = (sym (append-nil names) ∙ told, refl)
left_none names (x ∷ words) whole none told = absurd (cc none)

-- by one part more
pub part_more : (pieces : List (List ℕ)) (n : ℕ) (piece : List ℕ) → n < length pieces → piece ≡ get_or pieces n piece
    → map percent_decode (take n pieces) ++ percent_decode piece ∷ [] ≡ map percent_decode (take (n + 1) pieces)
part_more pieces n piece below here =
    sym (ap (map percent_decode) (take_more pieces n piece below ∙ ap (λ (x : List ℕ). take n pieces ++ x ∷ []) (sym here))
    ∙ map-append percent_decode (take n pieces) (piece ∷ []))

pub parts_all : (pieces : List (List ℕ)) (n : ℕ) → length pieces ≤ n → map percent_decode (take n pieces) ≡ map percent_decode pieces
parts_all pieces n all = ap (map percent_decode) (take_all n pieces all)
