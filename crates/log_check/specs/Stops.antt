-- The place at which a text that was read so far continues as no log does.
use Rattle.std.specs.Prelude.{◌≡◌, ◌≢◌, ◌<◌, ◌^◌, ℕ, Bool, List, [], ◌∷◌, ◌++◌, length, All}
use Rattle.mount_model.specs.History.{MountEntry, History}
use Rattle.mount_model.specs.Lawful.{IsLawful}
use Rattle.script_lang.specs.declared.commands.Section.{Section}
use Rattle.reply_text.specs.Log.{entry_text, log_text}
use Rattle.reply_text.specs.Notes.{notes_text}
use Rattle.reply_text.specs.Ranges.{EntryIsInRange}
use Rattle.fsc_session.specs.ScriptRun.{IsRunOf, notes_of}
use Rattle.fsc_session.specs.Meaning.{Follows}
use Rattle.log_check.specs.Certificate.{HasMemory, IsPossible, BeginsWith}

-- that many entries of a history were read from the text, and this is the rest of it
pub record IsRead (strict : Bool) (seed : List ℕ) (script : List Section) (text : List ℕ) (place : ℕ)
    (rest : List ℕ) (history : History) : Type 0 where
  pub read : text ≡ log_text history ++ rest
  pub long : length history ≡ place
  pub small : place < 2 ^ 64
  pub follows : Follows seed script history
  pub in_range : All EntryIsInRange history
  pub lawful : IsLawful history
  pub memory : HasMemory strict history

-- no entry continues the history whose line the rest begins with
abbrev pub IsBlocked : Bool → List ℕ → List Section → History → ℕ → List ℕ → Type 0
IsBlocked strict seed script history place rest =
    (e : MountEntry) → IsPossible strict seed script (history ++ e ∷ [])
    → ¬ BeginsWith rest (entry_text place e)

-- the history is no run of the script that has the rest for its notes
abbrev pub IsUnended : List ℕ → List Section → History → List ℕ → Type 0
IsUnended seed script history rest =
    IsRunOf seed script history → rest ≢ notes_text (notes_of seed script history)
