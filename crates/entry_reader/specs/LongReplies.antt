-- What is made of the words after the first one of a reply, if it has several.
use Rattle.std.specs.Prelude.{ℕ, List, [], map}
use Rattle.mount_model.specs.declared.reply.Reply.{Reply}
use Rattle.mount_model.specs.declared.reply.Reply.TheVariants as reply
use Rattle.percent_encoding.specs.Percent.{percent_decode}
use Rattle.entry_reader.specs.Forms.{Form, accept_end, ◌>>=◌, word}
use Rattle.entry_reader.specs.Fields.{number_in, bytes_in, flag_in, users_in}
use Rattle.entry_reader.specs.Names.{state_in, kind_in}

abbrev pub removed_form : Form Reply
removed_form = do
  others ← word flag_in
  busy ← word flag_in
  accept_end (reply.Removed others busy)

abbrev pub status : Form Reply
status = do
  state ← word state_in
  by_self ← word flag_in
  users ← word users_in
  accept_end (reply.Status state by_self users)

-- the bytes of each word that is left
abbrev pub remaining_words : Form (List (List ℕ))
remaining_words = λ words. (map percent_decode words, [])

-- the number of names is not needed
abbrev pub names : Form Reply
names = do
  count ← word (λ text. text)
  more ← word flag_in
  names ← remaining_words
  accept_end (reply.Names names more)

abbrev pub stat : Form Reply
stat = do
  kind ← word kind_in
  node ← word number_in
  size ← word number_in
  encrypted ← word flag_in
  keyed ← word flag_in
  accept_end (reply.Stat kind node size encrypted keyed)

abbrev pub held_form : Form Reply
held_form = do
  version ← word number_in
  bytes ← word bytes_in
  accept_end (reply.Held version bytes)
