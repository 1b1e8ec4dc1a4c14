-- How a text ends that was read as far as a log goes.
use Rattle.std.specs.Prelude.{◌≡◌, ℕ, List, None, All}
use Rattle.std.specs.List.{flat_map}
use Rattle.reply_text.specs.Notes.{notes_text}
use Rattle.next_calls.specs.Callers.{CallerView}
use Rattle.log_check.specs.declared.check.Verdict.{Verdict}
use Rattle.log_check.specs.declared.check.Verdict.TheVariants.{Certified, Refused}

-- no caller awaits anything, and the text is the lines of all their notes, caller after caller
abbrev pub IsEnded : List CallerView → List ℕ → Type 0
IsEnded callers text =
    All (λ caller. caller.waiting ≡ None) callers
    × (text ≡ notes_text (flat_map (λ caller. caller.notes) callers))

-- the verdict at this place: certified if all is ended, and otherwise refused here
abbrev pub IsVerdictHere : List CallerView → ℕ → List ℕ → Verdict → Type 0
IsVerdictHere callers place text Certified = IsEnded callers text
IsVerdictHere callers place text (Refused at) = (at ≡ place) × (¬ IsEnded callers text)
