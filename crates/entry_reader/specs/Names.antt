-- The first words of replies, and the words of refusals.
use Rattle.std.specs.Prelude.{ℕ, Bool, List, codes, Option, unwrap_or}
use Rattle.std.specs.List.{find}
use Rattle.std.specs.Str.{bytes_eq}
use Rattle.mount_model.specs.declared.reply.KeyState.{KeyState}
use Rattle.mount_model.specs.declared.reply.KeyState.TheVariants.{Absent, Present, Incomplete}
use Rattle.mount_model.specs.declared.reply.NodeKind.{NodeKind}
use Rattle.mount_model.specs.declared.reply.NodeKind.TheVariants.{Dir, File, Link}
use Rattle.mount_model.specs.declared.reply.Refusal.{Refusal}
use Rattle.mount_model.specs.declared.reply.Refusal.TheVariants.{NoMemory}
use Rattle.reply_text.specs.Words.{refusal_name}
use Rattle.entry_reader.specs.declared.names.ReplyName.{ReplyName}
use Rattle.entry_reader.specs.declared.names.ReplyName.TheVariants as name
use Rattle.entry_reader.specs.declared.names.TheConstants.{ALL_NAMES, PLAIN_REFUSALS}
use Rattle.std.specs.Prelude.{if◌then◌else◌}

-- the first word of a reply
abbrev pub name_text : ReplyName → List ℕ
name_text name.Added = codes "added"
name_text name.Removed = codes "removed"
name_text name.Status = codes "status"
name_text name.Done = codes "ok"
name_text name.Policy = codes "policy"
name_text name.Names = codes "names"
name_text name.Stat = codes "stat"
name_text name.Handle = codes "handle"
name_text name.Data = codes "data"
name_text name.Target = codes "target"
name_text name.Record = codes "record"
name_text name.Stored = codes "stored"
name_text name.Refused = codes "refused"

abbrev pub is_written : List ℕ → ReplyName → Bool
is_written word name = bytes_eq (name_text name) word

-- the name that a word is, if it is one
abbrev pub name_of : List ℕ → Option ReplyName
name_of word = find (is_written word) ALL_NAMES

abbrev pub is_refusal_word : List ℕ → Refusal → Bool
is_refusal_word word refusal = bytes_eq (refusal_name refusal) word

-- the refusal of a word, except the one whose word is followed by a version
abbrev pub refusal_in : List ℕ → Refusal
refusal_in word = unwrap_or (find (is_refusal_word word) PLAIN_REFUSALS) NoMemory

abbrev pub state_in : List ℕ → KeyState
state_in word =
    if bytes_eq word (codes "absent") then Absent
    else if bytes_eq word (codes "present") then Present
    else Incomplete

abbrev pub kind_in : List ℕ → NodeKind
kind_in word =
    if bytes_eq word (codes "dir") then Dir else if bytes_eq word (codes "file") then File else Link
