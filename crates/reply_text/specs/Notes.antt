-- The text of the notes: how each session command ended.
use Rattle.std.specs.Prelude.{ℕ, List, ◌++◌, codes}
use Rattle.std.specs.List.{flat_map}
use Rattle.text_words.specs.Numbers.{decimal_of}
use Rattle.reply_text.specs.declared.notes.Note.{Note}
use Rattle.reply_text.specs.declared.outcome.Outcome.{Outcome}
use Rattle.reply_text.specs.declared.outcome.Outcome.TheVariants.{Done, Refused, Conflict, BadRecord}
use Rattle.reply_text.specs.declared.outcome.Outcome.TheVariants.{WrongKind, WrongKey, NotListed, Listed}
use Rattle.reply_text.specs.declared.outcome.Outcome.TheVariants.{Full, LastOne, NoMemory, OddReply, Current}

-- the word of an outcome
abbrev pub outcome_word : Outcome → List ℕ
outcome_word Done = codes "ok"
outcome_word Refused = codes "refused"
outcome_word Conflict = codes "conflict"
outcome_word BadRecord = codes "bad-record"
outcome_word WrongKind = codes "wrong-kind"
outcome_word WrongKey = codes "wrong-key"
outcome_word NotListed = codes "not-listed"
outcome_word Listed = codes "listed"
outcome_word Full = codes "full"
outcome_word LastOne = codes "last-one"
outcome_word NoMemory = codes "no-memory"
outcome_word OddReply = codes "odd-reply"
outcome_word Current = codes "current"

-- the line of a note: `note CALLER LINE OUTCOME` and a line feed
unfoldable pub note_text : Note → List ℕ
note_text note =
    codes "note " ++ (decimal_of note.caller ++ (codes " " ++ (decimal_of note.line ++ (codes " "
    ++ (outcome_word note.outcome ++ codes "\n")))))

-- the lines of notes, in their order
abbrev pub notes_text : List Note → List ℕ
notes_text notes = flat_map note_text notes
