-- The text of a log: a line for each entry of a history, in order of place.
use Rattle.std.specs.Prelude.{ℕ, ◌+◌, List, [], ◌∷◌, ◌++◌, codes}
use Rattle.text_words.specs.Numbers.{decimal_of}
use Rattle.mount_model.specs.History.{MountEntry, History}
use Rattle.reply_text.specs.Calls.{call_text}
use Rattle.reply_text.specs.Replies.{reply_text}

-- place, caller and user of an entry
abbrev pub head_text : ℕ → MountEntry → List ℕ
head_text place e =
    decimal_of place ++ (codes " " ++ (decimal_of e.who ++ (codes " " ++ decimal_of e.call.uid)))

-- the line of an entry at a place: `PLACE CALLER UID CALL = REPLY` and a line feed
unfoldable pub entry_text : ℕ → MountEntry → List ℕ
entry_text place e =
    head_text place e ++ (codes " " ++ (call_text e.call.op
    ++ (codes " = " ++ (reply_text e.reply ++ codes "\n"))))

-- the lines of entries, of which the first has this place
unfoldable pub log_from : ℕ → History → List ℕ
log_from place [] = []
log_from place (e ∷ es) = entry_text place e ++ log_from (place + 1) es

-- the log of a history
abbrev pub log_text : History → List ℕ
log_text history = log_from 0 history
