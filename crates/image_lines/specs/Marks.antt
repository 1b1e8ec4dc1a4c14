-- Which nodes are marked, as those to which an earlier entry refers.
use Rattle.std.specs.Prelude.{ℕ, ◌≡◌, ◌<◌, Bool, true, false, nat_eq, List, ◌∷◌, length}
use Rattle.std.specs.Prelude.{slice_index, slice_index_or, Option, None, Some}
use Rattle.std.specs.Bool.{OnTrue}
use Rattle.std.specs.List.{list_any}
use Rattle.image_lines.specs.ChildFaults.{may_name_child}

-- the index of a number, or none if it isn't among them
abbrev pub IsIndexOf : List ℕ → ℕ → Option ℕ → Type 0
IsIndexOf numbers number None = list_any (nat_eq number) numbers ≡ false
IsIndexOf numbers number (Some index) = (index < length numbers) × (slice_index numbers index ≡ number)

-- the marked ones among numbers are those of this list
pub record AreMarked (numbers earlier : List ℕ) (marks : List Bool) : Type 0 where
  pub long : length marks ≡ length numbers
  pub each : (i : ℕ) → i < length numbers
      → slice_index_or marks i false ≡ list_any (nat_eq (slice_index numbers i)) earlier

-- going over a line: if it is an entry's, the answer is whether it may refer to its child, and then the
-- mark is set
abbrev pub GoesOn : List ℕ → List ℕ → Option (List ℕ × ℕ) → List Bool → Bool → Type 0
GoesOn numbers earlier None marks answer = (answer ≡ true) × AreMarked numbers earlier marks
GoesOn numbers earlier (Some entry) marks answer =
    (answer ≡ may_name_child numbers earlier entry.1)
    × OnTrue answer (AreMarked numbers (entry.1 ∷ earlier) marks)
