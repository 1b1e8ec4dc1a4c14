-- Histories of a mount: each call with its caller and its reply, in order of place from 0.
use Rattle.std.specs.Prelude.{◌≢◌, ⊤, ℕ, Bool, true, false, List, [], ◌∷◌, All, map, if◌then◌else◌}
use Rattle.call_history.specs.declared.entry.Entry.{Entry}
use Rattle.call_history.specs.Entries as entries
use Rattle.mount_model.specs.declared.call.Call.{Call}
use Rattle.mount_model.specs.declared.reply.Reply.{Reply}
use Rattle.mount_model.specs.declared.reply.Reply.TheVariants.{Refused}
use Rattle.mount_model.specs.declared.reply.Refusal.TheVariants.{NoMemory}
use Rattle.mount_model.specs.PlainMount.{PlainMount, empty_mount}
use Rattle.mount_model.specs.Answer.{answer_of}
use Rattle.mount_model.specs.Step.{IsMountStep}
pub use Rattle.call_history.specs.Entries.{entries_by}

abbrev pub MountEntry : Type 0
MountEntry = Entry Call Reply

abbrev pub History : Type 0
History = entries.History Call Reply

abbrev pub is_out_of_memory : Reply → Bool
is_out_of_memory (Refused NoMemory) = true
is_out_of_memory other = false

-- the mount that an entry leaves: the answer's, or the same one if the call was out of memory
abbrev pub mount_after_entry : PlainMount → MountEntry → PlainMount
mount_after_entry m e = if is_out_of_memory e.reply then m else (answer_of m e.who e.call).mount

-- the entry is a step at the mount
abbrev pub IsStepAt : PlainMount → MountEntry → Type 0
IsStepAt m e = IsMountStep m e.who e.call e.reply (mount_after_entry m e)

abbrev pub mount_from : PlainMount → History → PlainMount
mount_from m [] = m
mount_from m (e ∷ es) = mount_from (mount_after_entry m e) es

-- the mount that a history leaves
abbrev pub mount_after : History → PlainMount
mount_after history = mount_from empty_mount history

-- each entry is a step at the mount that the earlier entries leave
abbrev pub IsLegalFrom : PlainMount → History → Type 0
IsLegalFrom m [] = ⊤
IsLegalFrom m (e ∷ es) = IsStepAt m e × IsLegalFrom (mount_after_entry m e) es

abbrev pub IsLegal : History → Type 0
IsLegal history = IsLegalFrom empty_mount history

-- the calls, each with its caller
abbrev pub calls_of : History → List (ℕ × Call)
calls_of history = map (λ e. (e.who, e.call)) history

-- no reply is out of memory
abbrev pub NeverOutOfMemory : History → Type 0
NeverOutOfMemory history = All (λ e. e.reply ≢ Refused NoMemory) history
