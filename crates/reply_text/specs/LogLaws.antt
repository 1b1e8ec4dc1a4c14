-- What a line determines: a reader of it can say which caller got which reply.
use Rattle.std.specs.Prelude.{◌≡◌, ◌<◌, ◌^◌, ℕ, List, ◌++◌, length, All, map}
use Rattle.mount_model.specs.declared.call.Call.{Call}
use Rattle.mount_model.specs.declared.reply.Reply.{Reply}
use Rattle.mount_model.specs.History.{MountEntry, History}
use Rattle.reply_text.specs.Calls.{call_text}
use Rattle.reply_text.specs.Log.{entry_text, log_text}
use Rattle.reply_text.specs.Notes.{note_text}
use Rattle.reply_text.specs.Ranges.{ReplyIsInRange, EntryIsInRange, NoteIsInRange}
use Rattle.reply_text.specs.declared.notes.Note.{Note}

-- caller, user, the text of the call, and the reply
abbrev pub told : MountEntry → ℕ × ℕ × List ℕ × Reply
told e = (e.who, e.call.uid, call_text e.call.op, e.reply)

-- different replies of one call, at any place and of any caller, have different lines
abbrev pub DifferentRepliesHaveDifferentLines : Type 0
DifferentRepliesHaveDifferentLines =
    (place who : ℕ) (call : Call) (a b : Reply) → ReplyIsInRange a → ReplyIsInRange b
    → entry_text place (record { who = who; call = call; reply = a })
    ≡ entry_text place (record { who = who; call = call; reply = b })
    → a ≡ b

-- a line determines the place and these values of the entry
abbrev pub LinesDetermineTheirEntries : Type 0
LinesDetermineTheirEntries =
    (place other : ℕ) (e f : MountEntry) → place < 2 ^ 64 → other < 2 ^ 64
    → EntryIsInRange e → EntryIsInRange f
    → entry_text place e ≡ entry_text other f → (place ≡ other) × (told e ≡ told f)

-- a log determines these values of its entries, one after the other
abbrev pub LogsDetermineTheirEntries : Type 0
LogsDetermineTheirEntries =
    (g h : History) → length g < 2 ^ 64 → length h < 2 ^ 64 → All EntryIsInRange g → All EntryIsInRange h
    → log_text g ≡ log_text h → map told g ≡ map told h

-- a beginning of a text that is a log of that many entries determines their values, and what follows it
abbrev pub BeginningsDetermineTheirEntries : Type 0
BeginningsDetermineTheirEntries =
    (g h : History) (x y : List ℕ) → length g ≡ length h → length g < 2 ^ 64
    → All EntryIsInRange g → All EntryIsInRange h
    → log_text g ++ x ≡ log_text h ++ y → (map told g ≡ map told h) × (x ≡ y)

-- a note's line determines the note
abbrev pub NoteLinesDetermineTheirNotes : Type 0
NoteLinesDetermineTheirNotes =
    (a b : Note) → NoteIsInRange a → NoteIsInRange b → note_text a ≡ note_text b → a ≡ b
