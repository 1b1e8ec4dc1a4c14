-- When a state has answered a call.
use Rattle.std.specs.Prelude.{◌≡◌, ◌≢◌, true, false}
use Rattle.mount_model.specs.declared.reply.Reply.TheVariants.{Refused}
use Rattle.mount_model.specs.declared.reply.Refusal.TheVariants.{NoMemory}
use Rattle.mount_model.specs.PlainMount.{PlainMount}
use Rattle.mount_model.specs.Answer.{answer_of}
use Rattle.mount_model.specs.Step.{takes_memory}
use Rattle.mount_model.specs.History.{MountEntry, IsStepAt, mount_after_entry}
use Rattle.mount_model.specs.ClaimHistory.{is_refused, claims_after_entry}
use Rattle.mount_model.specs.Lawful.{KeyAgrees, ReportsClaimOf}
use Rattle.mount_state.specs.AnswerOf.{IsExpectedRefusal}
use Rattle.mount_state.specs.SameButCaches.{SameButCaches}
use Rattle.mount_state.specs.Represents.{Represents}
use Rattle.mount_state.specs.declared.state.MountState.{MountState}

-- the entry is a step at the mount, and the state represents the mount that it leaves
abbrev pub TakesStep : PlainMount → MountEntry → MountState → Type 0
TakesStep m e state = IsStepAt m e × Represents state (mount_after_entry m e)

-- the entry is made of the old state: the new one is left by it
pub record IsMade (old : MountState) (e : MountEntry) (new : MountState) : Type 0 where
  -- it is a step of every mount that the state represented, if a raw key that it adds agrees with what was
  -- added under its identifier before
  pub represents : (m : PlainMount) → Represents old m
      → (is_refused e.reply ≡ false → KeyAgrees m.raws e.call.op)
      → TakesStep m e new
  -- in any case the claims change according to the entry, and what it reports of them is so
  pub claims : new.ring.claims ≡ claims_after_entry old.ring.claims e
  pub told : ReportsClaimOf old.ring.claims e
  -- after a refusal nothing differs but which keys of nodes and which names are cached
  pub refused : is_refused e.reply ≡ true → SameButCaches old new
  -- a call that takes no memory is never out of memory
  pub sure : takes_memory e.call.op ≡ false → e.reply ≢ Refused NoMemory
  -- if the answer is a refusal, the reply is that one, even if there is no memory
  pub due : (m : PlainMount) → Represents old m → IsExpectedRefusal (answer_of m e.who e.call) e.reply
