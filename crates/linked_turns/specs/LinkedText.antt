-- The text of a run on two mounts.
use Rattle.std.specs.Prelude.{ℕ, List, ◌++◌, codes}
use Rattle.mount_model.specs.History.{History}
use Rattle.reply_text.specs.Log.{log_text}
use Rattle.reply_text.specs.Notes.{notes_text}
use Rattle.reply_text.specs.Logged.{LoggedHistory, log_of_history}
use Rattle.reply_text.specs.declared.notes.Note.{Note}

-- a line for each mount before the log of its shown entries, and after both the notes
abbrev pub linked_text : LoggedHistory → LoggedHistory → List Note → List ℕ
linked_text even odd notes =
    codes "mount 0\n" ++ (log_of_history even ++ (codes "mount 1\n" ++ (log_of_history odd ++ notes_text notes)))

-- a line for each mount before the log of its history, and after both the notes
abbrev pub both_logs : History → History → List Note → List ℕ
both_logs even odd notes =
    codes "mount 0\n" ++ (log_text even ++ (codes "mount 1\n" ++ (log_text odd ++ notes_text notes)))
