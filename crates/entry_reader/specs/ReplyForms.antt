-- What is made of the words of a reply.
use Rattle.std.specs.Prelude.{ℕ, List, codes, Option, Some, None, if◌then◌else◌}
use Rattle.std.specs.Str.{bytes_eq}
use Rattle.mount_model.specs.declared.reply.Refusal.{Refusal}
use Rattle.mount_model.specs.declared.reply.Refusal.TheVariants.{Changed}
use Rattle.mount_model.specs.declared.reply.Reply.{Reply}
use Rattle.mount_model.specs.declared.reply.Reply.TheVariants as reply
use Rattle.percent_encoding.specs.Percent.{percent_decode}
use Rattle.entry_reader.specs.Forms.{Form, accept_end, ◌>>=◌, word, only}
use Rattle.entry_reader.specs.Fields.{number_in, id_in, policy_in, bytes_in}
use Rattle.entry_reader.specs.Names.{name_of, refusal_in}
use Rattle.entry_reader.specs.declared.names.ReplyName.{ReplyName}
use Rattle.entry_reader.specs.declared.names.ReplyName.TheVariants as name
use Rattle.entry_reader.specs.LongReplies.{removed_form, status, names, stat, held_form}

-- a refusal, with the version after its word if it has one
abbrev pub refusal_after_name : List ℕ → Form Refusal
refusal_after_name why = if bytes_eq why (codes "changed") then only Changed number_in else accept_end (refusal_in why)

abbrev pub refused_form : Form Reply
refused_form = do
  why ← word (λ text. text)
  refusal ← refusal_after_name why
  accept_end (reply.Refused refusal)

abbrev pub form_of_reply : ReplyName → Form Reply
form_of_reply name.Added = only reply.Added id_in
form_of_reply name.Removed = removed_form
form_of_reply name.Status = status
form_of_reply name.Done = accept_end reply.Done
form_of_reply name.Policy = only reply.PolicyIs policy_in
form_of_reply name.Names = names
form_of_reply name.Stat = stat
form_of_reply name.Handle = only reply.Opened number_in
form_of_reply name.Data = only reply.Content bytes_in
form_of_reply name.Target = only reply.Target percent_decode
form_of_reply name.Record = held_form
form_of_reply name.Stored = only reply.Stored number_in
form_of_reply name.Refused = refused_form

-- after the first word, which is one of these
abbrev pub reply_after_name : Option ReplyName → Form Reply
reply_after_name None = accept_end reply.Done
reply_after_name (Some name) = form_of_reply name

-- a reply, with its first word
abbrev pub reply_form : Form Reply
reply_form = word name_of >>= reply_after_name
