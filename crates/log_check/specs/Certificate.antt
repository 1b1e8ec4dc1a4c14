-- Which histories a log can be of, and what the log of each is.
use Rattle.std.specs.Prelude.{◌≡◌, ℕ, Bool, IsTrue, List, ◌++◌, All}
use Rattle.mount_model.specs.History.{History, IsLegal, NeverOutOfMemory}
use Rattle.mount_model.specs.Lawful.{KeysAgree}
use Rattle.script_lang.specs.declared.commands.Section.{Section}
use Rattle.reply_text.specs.Ranges.{EntryIsInRange}
use Rattle.fsc_session.specs.Meaning.{Follows}

-- if it is strict, nothing in the history is out of memory
abbrev pub HasMemory : Bool → History → Type 0
HasMemory strict history = IsTrue strict → NeverOutOfMemory history

-- What a log of the script with the seed may contain: each caller's entries are a beginning of a run of its
-- section, the one-thread mount may reply so, and what a line shows is in the range of its type. No two
-- different raw keys that were added share an identifier.
pub record IsPossible (strict : Bool) (seed : List ℕ) (script : List Section) (history : History)
    : Type 0 where
  pub follows : Follows seed script history
  pub legal : IsLegal history
  pub in_range : All EntryIsInRange history
  pub agree : KeysAgree history
  pub memory : HasMemory strict history

-- the text begins with the piece
abbrev pub BeginsWith : List ℕ → List ℕ → Type 0
BeginsWith text piece = (rest : List ℕ) × (text ≡ piece ++ rest)
