-- Lists cut at a byte that is not in their parts, and joined again.
use Rattle.std.proofs.Common.{◌≡◌, ℕ, ◌<◌, ◌==◌, Bool, true, not, List, [], ◌∷◌, ◌++◌, length, Some, refl, sym, ap, ◌∙◌, arith, append_assoc}
use Rattle.std.specs.List.{list_all, slice_split, slice_get, join_with_byte}
use Rattle.std.proofs.lemmas.Bool.{not-true, eq-eqb, and_from}
use Rattle.std.proofs.lemmas.List.Folds.{list_all-append}
use Rattle.std.proofs.lemmas.List.Sums.{AllPass-from_list_all}
use Rattle.std.proofs.lemmas.List.Splits.{slice_split_at, slice_split_none, length-slice_split, join_with_byte-slice_split}
use Rattle.text_words.specs.Lines.{ended, is_line_feed, pieces_of}

-- whether a byte is not in a list
abbrev pub is_free_of : ℕ → List ℕ → Bool
is_free_of c xs = list_all (λ b. not (b == c)) xs

pub free_of_both : (c : ℕ) (xs ys : List ℕ) → is_free_of c xs ≡ true → is_free_of c ys ≡ true → is_free_of c (xs ++ ys) ≡ true
free_of_both c xs ys fx fy = list_all-append (λ b. not (b == c)) xs ys ∙ and_from _ _ fx fy

pub split_at : (c : ℕ) (xs ys : List ℕ) → is_free_of c xs ≡ true → slice_split (λ b. b == c) (xs ++ c ∷ ys) ≡ xs ∷ slice_split (λ b. b == c) ys
split_at c xs ys free =
    let each = AllPass-from_list_all (λ b. not (b == c)) xs free in
    slice_split_at (λ b. b == c) xs c ys (λ k d lt. not-true _ (each k d lt)) (eq-eqb c c refl)

pub split_none : (c : ℕ) (xs : List ℕ) → is_free_of c xs ≡ true → slice_split (λ b. b == c) xs ≡ xs ∷ []
split_none c xs free =
    let each = AllPass-from_list_all (λ b. not (b == c)) xs free in
    slice_split_none (λ b. b == c) xs (λ k d lt. not-true _ (each k d lt))

-- a text has a piece
some_piece : (pieces : List (List ℕ)) → 0 < length pieces → (first : List ℕ) × ((more : List (List ℕ)) × (pieces ≡ first ∷ more))
some_piece [] some = absurd (omega arith)
some_piece (first ∷ more) some = (first, (more, refl))

pub first_piece : (text : List ℕ) → (first : List ℕ) × ((more : List (List ℕ)) × (pieces_of text ≡ first ∷ more))
first_piece text = some_piece (pieces_of text) (let e = length-slice_split is_line_feed text in omega arith)

-- a list of two is its two items
pub two : (words : List (List ℕ)) (a b : List ℕ) → length words ≡ 2 → slice_get words 0 ≡ Some a → slice_get words 1 ≡ Some b → words ≡ a ∷ b ∷ []
two [] a b len w x = absurd (omega arith)
two (p ∷ []) a b len w x = absurd (omega arith)
two (p ∷ q ∷ []) a b len w x = cc
two (p ∷ q ∷ r ∷ more) a b len w x = absurd (omega arith)

-- lines are cut apart again
abbrev pub AreLines : List (List ℕ) → Type 0
AreLines [] = Unit {0}
AreLines (line ∷ lines) = (is_free_of 10 line ≡ true) × AreLines lines

pub AreLines-append : (xs ys : List (List ℕ)) → AreLines xs → AreLines ys → AreLines (xs ++ ys)
AreLines-append [] ys are more = more
AreLines-append (x ∷ xs) ys are more = (are.0, AreLines-append xs ys are.1 more)

pub pieces_of-ended : (lines : List (List ℕ)) → AreLines lines → pieces_of (ended lines) ≡ lines ++ [] ∷ []
pieces_of-ended [] free = refl
pieces_of-ended (line ∷ lines) free =
    split_at 10 line (ended lines) free.0 ∙ ap (λ l. line ∷ l) (pieces_of-ended lines free.1)

-- and joined again
joined : (lines : List (List ℕ)) → join_with_byte 10 (lines ++ [] ∷ []) ≡ ended lines
joined [] = refl
joined (line ∷ []) = refl
joined (line ∷ next ∷ lines) = ap (λ l. line ++ 10 ∷ l) (joined (next ∷ lines))

pub ended-from_pieces : (text : List ℕ) (lines : List (List ℕ)) → pieces_of text ≡ lines ++ [] ∷ [] → text ≡ ended lines
ended-from_pieces text lines cut = sym (join_with_byte-slice_split 10 text) ∙ ap (join_with_byte 10) cut ∙ joined lines

pub ended-append : (first others : List (List ℕ)) → ended (first ++ others) ≡ ended first ++ ended others
ended-append [] others = refl
ended-append (line ∷ lines) others =
    ap (λ (text : List ℕ). line ++ 10 ∷ text) (ended-append lines others) ∙ sym (append_assoc line (10 ∷ ended lines) (ended others))
