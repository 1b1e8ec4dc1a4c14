-- Each entry of the message schedule numbers one of 16 words.
use Rattle.std.proofs.Common.{◌≡◌, ℕ, ◌<◌, List, [], Bool, true, false, nat_lt, length, slice_index, slice_index_or, inl, inr, arith}
use Rattle.std.specs.List.{list_all}
use Rattle.std.proofs.lemmas.Bool.{cases_lt, cases_Bool}
use Rattle.std.proofs.lemmas.Bool.Decides.{nat_tests}
use Rattle.std.proofs.lemmas.List.{get_or_past}
use Rattle.std.proofs.lemmas.List.Folds.{list_all_at}
use Rattle.blake2_core.specs.Constants.{sigma}

-- whether each number of a row is below 16
abbrev pub row_low : List ℕ → Bool
row_low row = list_all (λ (x : ℕ). nat_lt x 16) row

low_in_row : (row : List ℕ) (t : ℕ) → row_low row ≡ true → slice_index row t < 16
low_in_row row t low =
    elim (cases_lt (slice_index row t) 16) [
      | inl under ↦ under
      | inr over ↦
          elim (cases_lt t (length row)) [
            | inl inside ↦
                let fails : nat_lt (slice_index row t) 16 ≡ false = grind (arith, nat_tests) in
                let none = list_all_at (λ (x : ℕ). nat_lt x 16) row t 0 inside fails in
                (cc)
            | inr past ↦ absurd (omega (arith, get_or_past row t 0 past))
          ]
    ]

rows_low : (r : ℕ) → r < 10 → row_low (slice_index_or sigma r []) ≡ true
rows_low r row =
    elim (cases_Bool (row_low (slice_index_or sigma r []))) [
      | inl low ↦ low
      | inr not_low ↦ let none : true ≡ false = list_all_at row_low sigma r [] row not_low in (cc)
    ]

pub sigma_low : (r t : ℕ) → r < 10 → slice_index (slice_index_or sigma r []) t < 16
sigma_low r t row = low_in_row (slice_index_or sigma r []) t (rows_low r row)
