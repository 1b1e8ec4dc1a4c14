-- The replies that a mount may give, and the mount after each.
use Rattle.std.specs.Prelude.{◌≡◌, ℕ, Bool, true, false, IsTrue, ◌⊎◌}
use Rattle.mount_model.specs.declared.call.Call.{Call}
use Rattle.mount_model.specs.declared.call.Op.{Op}
use Rattle.mount_model.specs.declared.call.Op.TheVariants.{RemoveKey, RemoveKeyAll}
use Rattle.mount_model.specs.declared.call.Op.TheVariants.{KeyStatus, Close, DropCaches}
use Rattle.mount_model.specs.declared.reply.Reply.{Reply}
use Rattle.mount_model.specs.declared.reply.Reply.TheVariants.{Refused}
use Rattle.mount_model.specs.declared.reply.Refusal.TheVariants.{NoMemory}
use Rattle.mount_model.specs.PlainMount.{PlainMount}
use Rattle.mount_model.specs.Answer.{answer_of}

-- whether the operation may take memory: removing keys, asking for a status, closing and dropping caches
-- never do
abbrev pub takes_memory : Op → Bool
takes_memory (RemoveKey id) = false
takes_memory (RemoveKeyAll id) = false
takes_memory (KeyStatus id) = false
takes_memory (Close handle) = false
takes_memory DropCaches = false
takes_memory other = true

-- the reply and the mount after it are those of the answer
abbrev pub IsAnswered : PlainMount → ℕ → Call → Reply → PlainMount → Type 0
IsAnswered m caller call reply after =
    (reply ≡ (answer_of m caller call).reply) × (after ≡ (answer_of m caller call).mount)

-- out of memory, and nothing changed: this may come in place of any answer to an operation that may take
-- memory
abbrev pub IsOutOfMemory : PlainMount → Call → Reply → PlainMount → Type 0
IsOutOfMemory m call reply after = IsTrue (takes_memory call.op) × (reply ≡ Refused NoMemory) × (after ≡ m)

-- a call, its reply, and the mount after it
abbrev pub IsMountStep : PlainMount → ℕ → Call → Reply → PlainMount → Type 0
IsMountStep m caller call reply after =
    IsAnswered m caller call reply after ⊎ IsOutOfMemory m call reply after
