-- What reading a line returns: exactly the lines of entries of calls that fit are read.
use Rattle.std.specs.Prelude.{◌≡◌, ◌≢◌, ◌<◌, ◌^◌, ℕ, List, Option, Some, None, IsSomeAnd}
use Rattle.mount_model.specs.Fits.{Fits}
use Rattle.mount_model.specs.History.{MountEntry}
use Rattle.reply_text.specs.Log.{entry_text}
use Rattle.reply_text.specs.LogLaws.{told}
use Rattle.reply_text.specs.Ranges.{EntryIsInRange}
use Rattle.entry_reader.specs.Typed.{CallIsTyped, ReplyIsTyped}
use Rattle.entry_reader.specs.declared.reader.LogEntry.{LogEntry}

-- an entry that a program can hold, of a call that a mount may be asked; the reply may be any, also one that
-- no such call has
pub record IsEntry (e : MountEntry) : Type 0 where
  pub in_range : EntryIsInRange e
  pub asked : CallIsTyped e.call.op
  pub replied : ReplyIsTyped e.reply
  pub fits : Fits e.call

-- the line is the line of such an entry, at its place
pub record IsLineOf (line : List ℕ) (read : LogEntry) : Type 0 where
  pub place : read.place < 2 ^ 64
  pub entry : IsEntry read.entry
  pub text : line ≡ entry_text read.place read.entry

-- an entry is returned if the line is its line, and otherwise none
abbrev pub IsEntryIfLine : List ℕ → LogEntry → Option LogEntry → Type 0
IsEntryIfLine line read (Some kept) = (kept ≡ read) × IsLineOf line read
IsEntryIfLine line read None = ¬ (Fits read.entry.call × (line ≡ entry_text read.place read.entry))

-- what was read is an entry with this line; if nothing was, the line is that of no entry
abbrev pub IsEntryOfLine : List ℕ → Option LogEntry → Type 0
IsEntryOfLine line (Some read) = IsLineOf line read
IsEntryOfLine line None = (place : ℕ) (e : MountEntry) → place < 2 ^ 64 → IsEntry e
    → line ≢ entry_text place e

-- the line of any such entry is read, as the text of that entry
abbrev pub ReadsBack : List ℕ → Option LogEntry → Type 0
ReadsBack line read =
    (place : ℕ) (e : MountEntry) → place < 2 ^ 64 → IsEntry e → line ≡ entry_text place e
    → IsSomeAnd read (λ x. (x.place ≡ place) × (told x.entry ≡ told e))
