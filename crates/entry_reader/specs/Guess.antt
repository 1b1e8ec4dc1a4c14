-- Which entry a line may be of: the only one, apart from what no line contains, if it is of one at all.
use Rattle.std.specs.Prelude.{ℕ, ◌-◌, List, length, take, Option, Some, None}
use Rattle.text_words.specs.Words.{words_of}
use Rattle.mount_model.specs.declared.call.Op.{Op}
use Rattle.entry_reader.specs.declared.reader.LogEntry.{LogEntry}
use Rattle.entry_reader.specs.Fields.{number_in, place_in}
use Rattle.entry_reader.specs.Forms.{Form, accept_end, ◌>>=◌, word}
use Rattle.entry_reader.specs.CallForms.{call_form}
use Rattle.entry_reader.specs.ReplyForms.{reply_form}

-- after place, caller, user and call: a `=` and the reply
abbrev pub entry_after_call : ℕ → ℕ → ℕ → Option Op → Form (Option LogEntry)
entry_after_call place who uid None = accept_end None
entry_after_call place who uid (Some op) = do
  equals ← word (λ text. text)
  reply ← reply_form
  accept_end (Some (record {
    place = place;
    entry = record { who = who; call = record { uid = uid; op = op }; reply = reply };
  }))

-- all words of a line
abbrev pub entry_form : Form (Option LogEntry)
entry_form = do
  place ← word place_in
  who ← word number_in
  uid ← word number_in
  op ← call_form
  entry_after_call place who uid op

-- the words before a line's last byte
abbrev pub guess_of : List ℕ → Option LogEntry
guess_of line = (entry_form (words_of (take (length line - 1) line))).0
