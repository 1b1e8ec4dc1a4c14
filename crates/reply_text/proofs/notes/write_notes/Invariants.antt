use Rattle.std.proofs.Common.{◌≡◌, take}
use Rattle.reply_text.specs.Notes.{notes_text}
use Rattle.reply_text.proofs.notes.write_notes.Given as goal

-- the notes so far are written
abbrev pub invariant-notes : goal.invariant-notes
invariant-notes l = l.text.items ≡ notes_text (take l.note-index l.notes)
