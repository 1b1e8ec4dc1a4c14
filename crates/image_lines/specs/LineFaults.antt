-- The first line of a text that its place does not allow.
use Rattle.std.specs.Prelude.{ℕ, ◌+◌, ◌==◌, ◌&&◌, Bool, true, false}
use Rattle.std.specs.Prelude.{List, [], ◌∷◌, length, Option, Some, None, if◌then◌else◌}
use Rattle.text_words.specs.Lines.{pieces_of}
use Rattle.image_lines.specs.declared.place.Place.{Place}
use Rattle.image_lines.specs.declared.place.Place.TheVariants.{AtHeader, AtRoot, InDir, Behind}
use Rattle.image_lines.specs.NextPlaces.{step}

-- whether an image may end at the place
abbrev pub may_end : Place → Bool
may_end AtHeader = false
may_end AtRoot = false
may_end (InDir number under_policy last) = true
may_end (Behind number left) = left == 0

-- go on from a place, unless there is none: then the line of this number is at fault
abbrev pub or_fault : ℕ → Option Place → (Place → Option ℕ) → Option ℕ
or_fault number None go_on = Some number
or_fault number (Some place) go_on = go_on place

-- in pieces from this place and number on, the number of the first that is not allowed there, that no line
-- feed ended, or that is missing
unfoldable pub line_fault_from : ℕ → Place → List (List ℕ) → Option ℕ
line_fault_from number place [] = Some number
line_fault_from number place (last ∷ []) =
    if (length last == 0) && may_end place then None else Some number
line_fault_from number place (line ∷ next ∷ more) =
    or_fault number (step place line) (λ place. line_fault_from (number + 1) place (next ∷ more))

-- the first line at fault, counted from 1
abbrev pub line_fault : List ℕ → Option ℕ
line_fault text = line_fault_from 1 AtHeader (pieces_of text)
