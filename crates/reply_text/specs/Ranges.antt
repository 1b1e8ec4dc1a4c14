-- The ranges of a line's values: bytes below 256, and numbers within their types. Each value of a program
-- is in range; lists and numbers in clauses range over all.
use Rattle.std.specs.Prelude.{◌<◌, ◌^◌, ⊤, length, All}
use Rattle.hex.specs.Hex.{IsBytes}
use Rattle.mount_model.specs.declared.reply.Refusal.{Refusal}
use Rattle.mount_model.specs.declared.reply.Refusal.TheVariants as refusal
use Rattle.mount_model.specs.declared.reply.Reply.{Reply}
use Rattle.mount_model.specs.declared.reply.Reply.TheVariants as reply
use Rattle.mount_model.specs.History.{MountEntry}
use Rattle.reply_text.specs.CallRange.{CallIsInRange}
use Rattle.reply_text.specs.declared.notes.Note.{Note}

abbrev pub RefusalIsInRange : Refusal → Type 0
RefusalIsInRange refusal.NoKey = ⊤
RefusalIsInRange refusal.Access = ⊤
RefusalIsInRange refusal.Quota = ⊤
RefusalIsInRange refusal.Inval = ⊤
RefusalIsInRange refusal.Exists = ⊤
RefusalIsInRange refusal.NotFound = ⊤
RefusalIsInRange refusal.NotDir = ⊤
RefusalIsInRange refusal.IsDir = ⊤
RefusalIsInRange refusal.NotEmpty = ⊤
RefusalIsInRange refusal.XDev = ⊤
RefusalIsInRange refusal.NoData = ⊤
RefusalIsInRange refusal.BadHandle = ⊤
RefusalIsInRange refusal.NameTooLong = ⊤
RefusalIsInRange refusal.TooBig = ⊤
RefusalIsInRange refusal.NoSpace = ⊤
RefusalIsInRange refusal.NoKeyClash = ⊤
RefusalIsInRange (refusal.Changed version) = version < 2 ^ 32
RefusalIsInRange refusal.NoMemory = ⊤

abbrev pub ReplyIsInRange : Reply → Type 0
ReplyIsInRange (reply.Added id) = IsBytes id.0
ReplyIsInRange (reply.Removed others busy) = ⊤
ReplyIsInRange (reply.Status state by_self users) = users < 2 ^ 32
ReplyIsInRange reply.Done = ⊤
ReplyIsInRange (reply.PolicyIs policy) = IsBytes policy
ReplyIsInRange (reply.Names names more) = (length names < 2 ^ 64) × All IsBytes names
ReplyIsInRange (reply.Stat kind node size encrypted keyed) = (node < 2 ^ 32) × (size < 2 ^ 32)
ReplyIsInRange (reply.Opened number) = number < 2 ^ 32
ReplyIsInRange (reply.Content bytes) = IsBytes bytes
ReplyIsInRange (reply.Target bytes) = IsBytes bytes
ReplyIsInRange (reply.Held version bytes) = (version < 2 ^ 32) × IsBytes bytes
ReplyIsInRange (reply.Stored version) = version < 2 ^ 32
ReplyIsInRange (reply.Refused why) = RefusalIsInRange why

pub record EntryIsInRange (e : MountEntry) : Type 0 where
  pub who : e.who < 2 ^ 32
  pub uid : e.call.uid < 2 ^ 32
  pub asked : CallIsInRange e.call.op
  pub replied : ReplyIsInRange e.reply

pub record NoteIsInRange (note : Note) : Type 0 where
  pub caller : note.caller < 2 ^ 32
  pub line : note.line < 2 ^ 32
