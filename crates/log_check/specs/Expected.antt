-- What a run has after that many lines of a text.
use Rattle.std.specs.Prelude.{◌≡◌, ◌≢◌, ℕ, List, [], ◌∷◌, ◌++◌, length, slice_get, All, Option, Some}
use Rattle.call_history.specs.Placed.{entries_of}
use Rattle.mount_model.specs.declared.reply.Reply.TheVariants.{Refused}
use Rattle.mount_model.specs.declared.reply.Refusal.TheVariants.{NoMemory}
use Rattle.mount_model.specs.History.{MountEntry, History, entries_by}
use Rattle.mount_model.specs.Lawful.{IsLawful}
use Rattle.mount_model.specs.Port.{PlacedCalls}
use Rattle.script_lang.specs.declared.commands.Section.{Section}
use Rattle.script_lang.specs.declared.commands.Command.{Command}
use Rattle.reply_text.specs.Log.{entry_text, log_text}
use Rattle.reply_text.specs.Notes.{notes_text}
use Rattle.reply_text.specs.Ranges.{EntryIsInRange}
use Rattle.reply_text.specs.declared.notes.Note.{Note}
use Rattle.fsc_commands.specs.Steps.{next_of, names_in}
use Rattle.fsc_commands.specs.Commands.{command_steps}
use Rattle.fsc_session.specs.Session.{IsRunSoFar}
use Rattle.fsc_session.specs.ScriptRun.{IsRunOf, notes_of}
use Rattle.fsc_session.specs.Meaning.{Follows}
use Rattle.log_check.specs.declared.expected.Continuation.{Continuation}
use Rattle.log_check.specs.declared.expected.Continuation.TheVariants as continuation
use Rattle.log_check.specs.Certificate.{BeginsWith}

-- the entry's call is one of the command on this line of the script: the caller's entries are a run of the
-- commands before that one, and then entries after which its steps ask for the call
pub record ComesOf (seed : List ℕ) (script : List Section) (history : History) (entry : MountEntry)
    (line : Option ℕ)
    : Type 0 where
  pub section : Section
  pub own : slice_get script entry.who ≡ Some section
  pub number : ℕ
  pub command : Command
  pub there : slice_get section.commands number ≡ Some command
  pub line_is : line ≡ Some command.line
  pub before : PlacedCalls
  pub made : PlacedCalls
  pub all : entries_by entry.who history ≡ before ++ made
  pub notes : List Note
  pub run : IsRunSoFar seed entry.who section number before notes
  pub asks : next_of (command_steps seed entry.who section.uid number (names_in before) command.verb)
      (entries_of made)
      ≡ Some (entry.who, entry.call)

-- the line of a caller's next call, with the line of the script that the call's command is on. The reply is
-- one that the mount may give after a history of that many entries, with whose log the text begins, and isn't
-- out of memory
pub record IsExpectedLine (seed : List ℕ) (script : List Section) (text : List ℕ) (place : ℕ) (line : List ℕ)
    (command : Option ℕ) : Type 0 where
  pub history : History
  pub entry : MountEntry
  pub begins : BeginsWith text (log_text history)
  pub long : length history ≡ place
  pub follows : Follows seed script (history ++ entry ∷ [])
  pub lawful : IsLawful (history ++ entry ∷ [])
  pub in_range : All EntryIsInRange (history ++ entry ∷ [])
  pub memory : entry.reply ≢ Refused NoMemory
  pub comes : ComesOf seed script history entry command
  pub text_is : line ≡ entry_text place entry

-- the notes of a whole run, with whose entries the text begins
pub record AreExpectedNotes (seed : List ℕ) (script : List Section) (text : List ℕ) (place : ℕ)
    (notes : List ℕ)
    : Type 0 where
  pub history : History
  pub begins : BeginsWith text (log_text history)
  pub long : length history ≡ place
  pub runs : IsRunOf seed script history
  pub lawful : IsLawful history
  pub text_is : notes ≡ notes_text (notes_of seed script history)

abbrev pub IsExpected : List ℕ → List Section → List ℕ → ℕ → Continuation → Type 0
IsExpected seed script text place (continuation.Line line command) =
    IsExpectedLine seed script text place line command
IsExpected seed script text place (continuation.Notes notes) =
    AreExpectedNotes seed script text place notes
