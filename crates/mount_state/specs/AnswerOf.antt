-- That a call is answered as the one-thread mount answers it.
use Rattle.std.specs.Prelude.{◌≡◌, ◌⊎◌, true}
use Rattle.mount_model.specs.declared.reply.Reply.{Reply}
use Rattle.mount_model.specs.declared.reply.Reply.TheVariants.{Refused}
use Rattle.mount_model.specs.declared.reply.Refusal.TheVariants.{NoMemory}
use Rattle.mount_model.specs.PlainMount.{PlainMount}
use Rattle.mount_model.specs.AnswerForms.{Answer}
use Rattle.mount_model.specs.ClaimHistory.{is_refused}
pub use Rattle.mount_model.specs.KeyReplies.{IsReplyOrNoMemory}
use Rattle.mount_state.specs.Represents.{Represents}
use Rattle.mount_state.specs.declared.state.MountState.{MountState}

-- the reply is the answer's, and the state represents its mount
abbrev pub IsAnswerOf : Answer → Reply → MountState → Type 0
IsAnswerOf answer reply state = (reply ≡ answer.reply) × Represents state answer.mount

-- the same, or there was no memory, and the state represents the mount as it was
abbrev pub IsAnswerOrNoMemory : PlainMount → Answer → Reply → MountState → Type 0
IsAnswerOrNoMemory m answer reply state =
    IsAnswerOf answer reply state ⊎ ((reply ≡ Refused NoMemory) × Represents state m)

-- if the answer is a refusal, the reply is that one, even if there is no memory
abbrev pub IsExpectedRefusal : Answer → Reply → Type 0
IsExpectedRefusal answer reply = is_refused answer.reply ≡ true → reply ≡ answer.reply
