-- The meaning of a log: a reader with a run's script and seed can say from the log alone what each caller
-- called and which reply it got.
use Rattle.std.specs.Prelude.{◌≡◌, ◌<◌, ◌^◌, ℕ, List, [], ◌++◌, length, map, All, slice_get, Option, Some, None}
use Rattle.call_history.specs.Placed.{entries_of}
use Rattle.mount_model.specs.Port.{PlacedCalls}
use Rattle.mount_model.specs.History.{History, entries_by}
use Rattle.script_lang.specs.declared.commands.Section.{Section}
use Rattle.reply_text.specs.Log.{log_text}
use Rattle.reply_text.specs.LogLaws.{told}
use Rattle.reply_text.specs.Notes.{notes_text}
use Rattle.reply_text.specs.Ranges.{EntryIsInRange}
use Rattle.reply_text.specs.declared.notes.Note.{Note}
use Rattle.fsc_commands.specs.Steps.{Steps, Reaches}
use Rattle.fsc_session.specs.Session.{section_steps}
use Rattle.fsc_session.specs.ScriptRun.{IsRunOf, notes_of}

-- the entries are a beginning of a run of the section at the caller's number; a number without one has
-- none
abbrev pub IsBegunBy : List ℕ → ℕ → Option Section → PlacedCalls → Type 0
IsBegunBy seed caller None placed = placed ≡ []
IsBegunBy seed caller (Some section) placed =
    (rest : Steps (List Note)) × Reaches (section_steps seed caller section) (entries_of placed) rest

-- each caller's entries are a beginning of a run of its section
abbrev pub Follows : List ℕ → List Section → History → Type 0
Follows seed script history =
    (caller : ℕ) → IsBegunBy seed caller (slice_get script caller) (entries_by caller history)

-- a history that follows a script is determined by the values that its lines contain
abbrev pub LogDeterminesTheHistory : Type 0
LogDeterminesTheHistory =
    (seed : List ℕ) (script : List Section) (g h : History) → Follows seed script g → Follows seed script h
    → map told g ≡ map told h → g ≡ h

-- the log of a run with its notes after it
abbrev pub whole_log : List ℕ → List Section → History → List ℕ
whole_log seed script history = log_text history ++ notes_text (notes_of seed script history)

-- two runs of a script with one seed that have one log are one run
abbrev pub LogsHaveOneMeaning : Type 0
LogsHaveOneMeaning =
    (seed : List ℕ) (script : List Section) (g h : History) → length g < 2 ^ 64 → length h < 2 ^ 64
    → All EntryIsInRange g → All EntryIsInRange h → IsRunOf seed script g → IsRunOf seed script h
    → whole_log seed script g ≡ whole_log seed script h → g ≡ h
