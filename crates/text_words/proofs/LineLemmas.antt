-- The pieces of a text from the first on.
use Rattle.std.proofs.Common.{◌≡◌, ℕ, ◌<◌, ◌≤◌, ◌+◌, ◌-◌, Bool, cond, List, [], ◌∷◌, ◌++◌, length, take, drop, Option, Some, None, ap, ◌∙◌, arith, take_all, length-drop, take-append-drop, sym, refl, add-one, subst, get_or, true, drop-cons}
use Rattle.std.specs.List.{slice_split, position_or_len}
use Rattle.std.specs.Option.{unwrap_or}
use Rattle.std.proofs.Math.Dec.{ltb}
use Rattle.std.proofs.lemmas.Bool.{eqb-true}
use Rattle.text_words.specs.Lines.{is_line_feed}
use Rattle.std.proofs.lemmas.List.Sums.{prefix_len-le-length, fails_before_first, passes_at_first}
use Rattle.std.proofs.lemmas.List.Splits.{slice_split_first, slice_split_none}

-- the place of the first that passes, by `position`, or the length
pub first_or_length : (p : ℕ → Bool) (xs : List ℕ) (o : Option ℕ)
    → o ≡ cond (ltb (position_or_len p xs) (length xs)) (Some (position_or_len p xs)) None
    → unwrap_or o (length xs) ≡ position_or_len p xs
first_or_length p xs o h = ap (λ (o : Option ℕ). unwrap_or o (length xs)) h ∙ chosen (position_or_len p xs) (length xs) (prefix_len-le-length _ xs)
  where
    chosen : (k n : ℕ) → k ≤ n → (let o : Option ℕ = cond (ltb k n) (Some k) None in unwrap_or o n ≡ k)
    chosen k n le = grind arith

-- a list up to the first that passes, and the rest
pub pieces_first : (p : ℕ → Bool) (xs : List ℕ) (end : ℕ) → end ≡ position_or_len p xs → end < length xs
    → slice_split p xs ≡ take end xs ∷ slice_split p (take (length xs - (end + 1)) (drop (end + 1) xs))
pieces_first p xs end e lt =
    let whole : take (length xs - (end + 1)) (drop (end + 1) xs) ≡ drop (end + 1) xs = take_all _ _ (omega (arith, length-drop {A = ℕ})) in
    rw (whole, e) (slice_split_first p xs 0 (omega arith))

pub pieces_none : (p : ℕ → Bool) (xs : List ℕ) (end : ℕ) → end ≡ position_or_len p xs → length xs ≤ end
    → slice_split p xs ≡ xs ∷ []
pieces_none p xs end e le = slice_split_none p xs (λ k d lt. fails_before_first p xs k d (omega arith))

-- a list is the elements before the first that passes, that element and the rest
pub whole_first : (xs : List ℕ) (end : ℕ) → end ≡ position_or_len is_line_feed xs → end < length xs
    → xs ≡ take end xs ++ (10 ∷ take (length xs - (end + 1)) (drop (end + 1) xs))
whole_first xs end e lt =
    let whole : take (length xs - (end + 1)) (drop (end + 1) xs) ≡ drop (end + 1) xs = take_all _ _ (omega (arith, length-drop {A = ℕ})) in
    let feed : get_or xs end 0 ≡ 10 = eqb-true _ _ (subst (λ k. is_line_feed (get_or xs k 0) ≡ true) (sym e) (passes_at_first is_line_feed xs 0 (omega arith))) in
    let rest : drop end xs ≡ 10 ∷ drop (end + 1) xs = drop-cons xs end 0 lt ∙ rw (feed, add-one) refl in
    rw whole (sym (ap (λ ys. take end xs ++ ys) (sym rest) ∙ take-append-drop end xs))
