-- The log of a run of a script.
use Rattle.std.specs.Prelude.{◌≡◌, ◌<◌, ◌^◌, ℕ, List, ◌++◌, length, All}
use Rattle.mount_model.specs.History.{History}
use Rattle.script_lang.specs.declared.commands.Section.{Section}
use Rattle.reply_text.specs.Log.{log_text}
use Rattle.reply_text.specs.Notes.{notes_text}
use Rattle.reply_text.specs.Ranges.{EntryIsInRange}
use Rattle.fsc_session.specs.ScriptRun.{notes_of}

-- the text is the log of one history, followed by the notes of that run; the history is a run of the script
-- with the seed, has fewer entries than there are places, and holds values of the program alone
pub record IsLogOfRun (IsRun : List ℕ → List Section → History → Type 0)
    (seed : List ℕ) (script : List Section) (text : List ℕ) : Type 0 where
  pub history : History
  pub run : IsRun seed script history
  pub short : length history < 2 ^ 64
  pub ranged : All EntryIsInRange history
  pub log : text ≡ log_text history ++ notes_text (notes_of seed script history)
