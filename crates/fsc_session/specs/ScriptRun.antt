-- A run of a script: each caller's entries are a run of its section; and the notes of such a run.
use Rattle.std.specs.Prelude.{◌≡◌, ℕ, ◌+◌, List, [], ◌∷◌, ◌++◌, slice_get, Option, Some, None}
use Rattle.call_history.specs.Entries.{by, entries_with_places}
use Rattle.mount_model.specs.Port.{PlacedCalls}
use Rattle.mount_model.specs.History.{History, entries_by}
use Rattle.script_lang.specs.declared.commands.Section.{Section}
use Rattle.reply_text.specs.declared.notes.Note.{Note}
use Rattle.fsc_session.specs.Session.{IsRunOfSection, notes_of_section}

-- the entries are a run of the section at the caller's number; a number without one has none
abbrev pub IsRunOfCaller : List ℕ → ℕ → Option Section → PlacedCalls → Type 0
IsRunOfCaller seed caller None placed = placed ≡ []
IsRunOfCaller seed caller (Some section) placed = IsRunOfSection seed caller section placed

-- each caller's entries are a run of its section, and no other caller has any
abbrev pub IsRunOf : List ℕ → List Section → History → Type 0
IsRunOf seed script history =
    (caller : ℕ) → IsRunOfCaller seed caller (slice_get script caller) (entries_by caller history)

-- the notes of runs of these sections among the entries of all callers, caller after caller; the first of
-- them has the number k
abbrev pub notes_by : List ℕ → ℕ → List Section → PlacedCalls → List Note
notes_by seed k [] placed = []
notes_by seed k (section ∷ more) placed =
    notes_of_section seed k section (by k placed) ++ notes_by seed (k + 1) more placed

-- the notes of a run of a script: by caller, and each caller's in the order of its commands
abbrev pub notes_of : List ℕ → List Section → History → List Note
notes_of seed script history = notes_by seed 0 script (entries_with_places 0 history)
