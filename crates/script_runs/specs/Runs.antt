-- What a run of a script is: by callers that don't wait for one another, and in rotation.
use Rattle.std.specs.Prelude.{◌≡◌, ℕ, List, All}
use Rattle.call_history.specs.Entries.{entries_with_places}
use Rattle.mount_model.specs.History.{History, IsLegal, NeverOutOfMemory}
use Rattle.script_lang.specs.declared.commands.Section.{Section}
use Rattle.reply_text.specs.Ranges.{EntryIsInRange}
use Rattle.reply_text.specs.Logged.{PlacedLogged, logged_history}
use Rattle.reply_text.specs.declared.notes.Note.{Note}
use Rattle.fsc_commands.specs.Steps.{Reaches}
use Rattle.fsc_commands.specs.Steps.Steps.{Done}
use Rattle.fsc_session.specs.ScriptRun.{IsRunOf, notes_of}
use Rattle.fsc_session.specs.Rotation.{Waiting, rotation_steps}
use Rattle.fsc_session.specs.Serial.{serial_history}

-- the machine could answer so; and it holds each caller's calls, those of its section in order, and no
-- other calls
pub record IsLawfulRun (lawful : History → Type 0)
    (seed : List ℕ) (script : List Section) (history : History) : Type 0 where
  pub lawfully : lawful history
  pub callers : IsRunOf seed script history

-- such a run in which the callers took turns; if the one-thread mount could answer so and no call was out
-- of memory, it is a function of script and seed
pub record IsSerialRun (lawful : History → Type 0)
    (seed : List ℕ) (script : List Section) (history : History) : Type 0 where
  pub run : IsLawfulRun lawful seed script history
  pub order : (after : List Waiting) × Reaches (rotation_steps seed script) history (Done after)
  pub serial : IsLegal history → NeverOutOfMemory history → history ≡ serial_history seed script

-- such a run, of whose history `Led` holds too: that a machine may be in the state after it
abbrev pub IsRunBefore : (History → Type 0) → (List ℕ → List Section → History → Type 0)
    → List ℕ → List Section → History → Type 0
IsRunBefore Led IsRun seed script history = IsRun seed script history × Led history

-- the entries are the shown entries of one history, which is such a run and holds values of the program
-- alone, in order of place; and these are its notes
pub record IsLogOf (IsRun : List ℕ → List Section → History → Type 0)
    (seed : List ℕ) (script : List Section) (placed : PlacedLogged) (notes : List Note) : Type 0 where
  pub history : History
  pub run : IsRun seed script history
  pub ranged : All EntryIsInRange history
  pub in_place : placed ≡ entries_with_places 0 (logged_history history)
  pub noted : notes ≡ notes_of seed script history
