-- The form of calls in a log: in place of a call its user and its text. A line needs nothing else of a
-- call.
use Rattle.std.specs.Prelude.{ℕ, ◌+◌, List, [], ◌∷◌, ◌++◌, map, codes}
use Rattle.call_history.specs.Entries as entries
use Rattle.text_words.specs.Numbers.{decimal_of}
use Rattle.mount_model.specs.declared.call.Call.{Call}
use Rattle.mount_model.specs.declared.reply.Reply.{Reply}
use Rattle.mount_model.specs.History.{MountEntry, History}
use Rattle.mount_model.specs.Port.{PlacedCalls}
use Rattle.call_history.specs.declared.entry.Entry.{Entry}
use Rattle.reply_text.specs.Calls.{call_text}
use Rattle.reply_text.specs.Replies.{reply_text}
use Rattle.reply_text.specs.declared.logged.LoggedCall.{LoggedCall}

abbrev pub LoggedEntry : Type 0
LoggedEntry = Entry LoggedCall Reply

abbrev pub LoggedHistory : Type 0
LoggedHistory = entries.History LoggedCall Reply

abbrev pub PlacedLogged : Type 0
PlacedLogged = entries.PlacedList LoggedCall Reply

-- the form of a call in a log
abbrev pub logged_call : Call → LoggedCall
logged_call call = record { uid = call.uid; words = call_text call.op }

-- of an entry, of a history, and of entries with their places
abbrev pub logged_entry : MountEntry → LoggedEntry
logged_entry e = record { who = e.who; call = logged_call e.call; reply = e.reply }

abbrev pub logged_history : History → LoggedHistory
logged_history history = map logged_entry history

abbrev pub logged_calls : PlacedCalls → PlacedLogged
logged_calls placed = map (λ x. (x.0, logged_entry x.1)) placed

-- place, caller and user
abbrev pub line_head : ℕ → ℕ → ℕ → List ℕ
line_head place who uid =
    decimal_of place ++ (codes " " ++ (decimal_of who ++ (codes " " ++ decimal_of uid)))

-- the line of a shown entry at a place
unfoldable pub shown_text : ℕ → LoggedEntry → List ℕ
shown_text place e =
    line_head place e.who e.call.uid ++ (codes " " ++ (e.call.words
    ++ (codes " = " ++ (reply_text e.reply ++ codes "\n"))))

-- the lines, of which the first has this place
unfoldable pub shown_from : ℕ → LoggedHistory → List ℕ
shown_from place [] = []
shown_from place (e ∷ es) = shown_text place e ++ shown_from (place + 1) es

-- the log of a shown history
abbrev pub log_of_history : LoggedHistory → List ℕ
log_of_history history = shown_from 0 history
