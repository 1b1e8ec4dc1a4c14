-- Rows that are not shifted yet: look-ups by the tables of places, and the effect of rotations.
use Rattle.std.proofs.Common.{◌≡◌, ℕ, zero, suc, ◌+◌, ◌*◌, ◌<◌, true, List, [], map, length, get_or, refl, arith}
use Rattle.std.proofs.lemmas.Simd.{Each1-from_get_or}
use Rattle.std.specs.Simd.Lanes.{Each1}
use Rattle.byte_words.specs.Tables.{all_from}
use Rattle.byte_words.proofs.TableLemmas.{all_from-at}
use Rattle.aes_core.specs.Laws.{IsBlock}
use Rattle.aes_core.specs.Shuffles.{is_place, IsPlace, found_in}
use Rattle.aes_core.specs.Steps.{cell, state_of}
use Rattle.aes_core.specs.UnshiftedRows.{rotated_rows, unshifted_row}
use Rattle.aes_core.specs.declared.unshifted_rows.TheConstants.{NEXT_ROWS, SECOND_ROWS, THIRD_ROWS, ROTATIONS}
use Rattle.aes_core.proofs.LaneLemmas.{of_sixteen}
use Rattle.aes_core.proofs.StateLemmas.{state_of-IsBlock}

pub of_four : (P : ℕ → Type 0) → P 0 → P 1 → P 2 → P 3 → (n : ℕ) → n < 4 → P n
of_four P p0 p1 p2 p3 zero low = p0
of_four P p0 p1 p2 p3 (suc zero) low = p1
of_four P p0 p1 p2 p3 (suc (suc zero)) low = p2
of_four P p0 p1 p2 p3 (suc (suc (suc zero))) low = p3
of_four P p0 p1 p2 p3 (suc (suc (suc (suc n)))) low = absurd (omega arith)

-- a list of 16 is a state, cell by cell
pub as_state : (P : List ℕ → Type 0) (s : List ℕ) → length s ≡ 16 → P (state_of (cell s)) → P s
as_state P s size = of_sixteen (λ s. P (state_of (cell s)) → P s) (λ x0 x1 x2 x3 x4 x5 x6 x7 x8 x9 x10 x11 x12 x13 x14 x15 p. p) s size

-- ---- the tables of places

all_places : (xs : List ℕ) → length xs ≡ 16 → all_from (λ i. is_place (get_or xs i 0)) 0 16 ≡ true → Each1 IsPlace xs
all_places xs size all = Each1-from_get_or IsPlace xs 0 (λ i low. all_from-at (λ i. is_place (get_or xs i 0)) 0 16 i all (omega arith) (omega arith))

pub next_row_places : (n : ℕ) → n < 4 → Each1 IsPlace (get_or NEXT_ROWS n [])
unfolding all_from
next_row_places = of_four (λ n. Each1 IsPlace (get_or NEXT_ROWS n [])) (all_places (get_or NEXT_ROWS 0 []) refl refl) (all_places (get_or NEXT_ROWS 1 []) refl refl)
    (all_places (get_or NEXT_ROWS 2 []) refl refl) (all_places (get_or NEXT_ROWS 3 []) refl refl)

pub next_row_found : (n : ℕ) → n < 4 → (s : List ℕ) → map (found_in s) (get_or NEXT_ROWS n []) ≡ unshifted_row 1 n s
unfolding found_in unshifted_row
next_row_found = of_four (λ n. (s : List ℕ) → map (found_in s) (get_or NEXT_ROWS n []) ≡ unshifted_row 1 n s) (λ s. refl) (λ s. refl) (λ s. refl) (λ s. refl)

pub second_row_places : (n : ℕ) → n < 4 → Each1 IsPlace (get_or SECOND_ROWS n [])
unfolding all_from
second_row_places = of_four (λ n. Each1 IsPlace (get_or SECOND_ROWS n [])) (all_places (get_or SECOND_ROWS 0 []) refl refl) (all_places (get_or SECOND_ROWS 1 []) refl refl)
    (all_places (get_or SECOND_ROWS 2 []) refl refl) (all_places (get_or SECOND_ROWS 3 []) refl refl)

pub second_row_found : (n : ℕ) → n < 4 → (s : List ℕ) → map (found_in s) (get_or SECOND_ROWS n []) ≡ unshifted_row 2 n s
unfolding found_in unshifted_row
second_row_found = of_four (λ n. (s : List ℕ) → map (found_in s) (get_or SECOND_ROWS n []) ≡ unshifted_row 2 n s) (λ s. refl) (λ s. refl) (λ s. refl) (λ s. refl)

pub third_row_places : (n : ℕ) → n < 4 → Each1 IsPlace (get_or THIRD_ROWS n [])
unfolding all_from
third_row_places = of_four (λ n. Each1 IsPlace (get_or THIRD_ROWS n [])) (all_places (get_or THIRD_ROWS 0 []) refl refl) (all_places (get_or THIRD_ROWS 1 []) refl refl)
    (all_places (get_or THIRD_ROWS 2 []) refl refl) (all_places (get_or THIRD_ROWS 3 []) refl refl)

pub third_row_found : (n : ℕ) → n < 4 → (s : List ℕ) → map (found_in s) (get_or THIRD_ROWS n []) ≡ unshifted_row 3 n s
unfolding found_in unshifted_row
third_row_found = of_four (λ n. (s : List ℕ) → map (found_in s) (get_or THIRD_ROWS n []) ≡ unshifted_row 3 n s) (λ s. refl) (λ s. refl) (λ s. refl) (λ s. refl)

pub rotation_places : (n : ℕ) → n < 4 → Each1 IsPlace (get_or ROTATIONS n [])
unfolding all_from
rotation_places = of_four (λ n. Each1 IsPlace (get_or ROTATIONS n [])) (all_places (get_or ROTATIONS 0 []) refl refl) (all_places (get_or ROTATIONS 1 []) refl refl)
    (all_places (get_or ROTATIONS 2 []) refl refl) (all_places (get_or ROTATIONS 3 []) refl refl)

pub rotation_found : (n : ℕ) → n < 4 → (s : List ℕ) → map (found_in s) (get_or ROTATIONS n []) ≡ rotated_rows n s
unfolding found_in rotated_rows
rotation_found = of_four (λ n. (s : List ℕ) → map (found_in s) (get_or ROTATIONS n []) ≡ rotated_rows n s) (λ s. refl) (λ s. refl) (λ s. refl) (λ s. refl)

-- ---- rotations

-- a rotation moves what the lanes have
pub rotated_rows-map : (f : ℕ → ℕ) (n : ℕ) → n < 4 → (s : List ℕ) → length s ≡ 16 → rotated_rows n (map f s) ≡ map f (rotated_rows n s)
unfolding rotated_rows
rotated_rows-map f = of_four (λ n. (s : List ℕ) → length s ≡ 16 → rotated_rows n (map f s) ≡ map f (rotated_rows n s))
    (λ s size. as_state (λ s. rotated_rows 0 (map f s) ≡ map f (rotated_rows 0 s)) s size refl)
    (λ s size. as_state (λ s. rotated_rows 1 (map f s) ≡ map f (rotated_rows 1 s)) s size refl)
    (λ s size. as_state (λ s. rotated_rows 2 (map f s) ≡ map f (rotated_rows 2 s)) s size refl)
    (λ s size. as_state (λ s. rotated_rows 3 (map f s) ≡ map f (rotated_rows 3 s)) s size refl)

pub rotated_rows-IsBlock : (n : ℕ) (s : List ℕ) → IsBlock s → IsBlock (rotated_rows n s)
unfolding rotated_rows
rotated_rows-IsBlock n s block = state_of-IsBlock (λ r c. cell s r (c + n * r)) (λ r c. block.bytes _)

pub not_rotated : (s : List ℕ) → length s ≡ 16 → s ≡ rotated_rows 0 s
unfolding rotated_rows
not_rotated s size = as_state (λ s. s ≡ rotated_rows 0 s) s size refl

pub rotated_four_times : (s : List ℕ) → length s ≡ 16 → s ≡ rotated_rows 4 s
unfolding rotated_rows
rotated_four_times s size = as_state (λ s. s ≡ rotated_rows 4 s) s size refl
