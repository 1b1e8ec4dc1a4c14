-- The rest of a list after its first items.
use Rattle.std.proofs.Common.{◌≡◌, ℕ, ◌<◌, ◌≤◌, ◌+◌, ◌-◌, min, List, [], ◌++◌, length, take, drop, sym, ap}
use Rattle.std.proofs.Common.{◌∙◌, arith, take_all, take-append-drop, length-drop, drop_of_length-le}
use Rattle.std.proofs.lemmas.List.{drop-drop}

-- The next items are those given, and none were given to a nonempty piece only at the end. The remaining
-- ones were read as the slice from `at` to the end.
pub given : (bytes slice piece : List ℕ) (at most room count : ℕ) → 1 ≤ most → length piece ≡ room
    → slice ≡ bytes
    → count ≡ min (min most room) (length (take (length slice - at) (drop at slice)))
    → take count piece ≡ take count (take (length slice - at) (drop at slice))
    → (drop at bytes ≡ take count piece ++ drop (at + count) bytes)
    × (count ≡ 0 → 0 < length piece → drop (at + count) bytes ≡ [])
given bytes slice piece at most room count some sized same counted front =
    let whole : take (length slice - at) (drop at slice) ≡ drop at slice =
    take_all _ _ (omega (arith, length-drop at slice)) in
    let size : length (drop at slice) ≡ length bytes - at =
    length-drop at slice ∙ ap (λ (xs : List ℕ). length xs - at) same in
    let first : take count (drop at bytes) ≡ take count piece =
    sym (front ∙ ap (take count) whole ∙ ap (λ (xs : List ℕ). take count (drop at xs)) same) in (
      sym (take-append-drop count (drop at bytes))
          ∙ ap (λ xs. xs ++ drop count (drop at bytes)) first
          ∙ ap (λ xs. take count piece ++ xs) (drop-drop count at bytes),
      λ none nonempty. drop_of_length-le bytes (let n : count ≡ min (min most room) (length (drop at slice)) =
          counted ∙ ap (λ (xs : List ℕ). min (min most room) (length xs)) whole in omega arith),
    )
