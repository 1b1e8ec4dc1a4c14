-- How a session command ends, by the reply to its last call.
use Rattle.mount_model.specs.declared.reply.Reply.{Reply}
use Rattle.mount_model.specs.declared.reply.Reply.TheVariants as reply
use Rattle.mount_model.specs.declared.reply.Refusal.{Refusal}
use Rattle.mount_model.specs.declared.reply.Refusal.TheVariants as refusal
use Rattle.protector_meta.specs.declared.wraps.WrapFault.{WrapFault}
use Rattle.protector_meta.specs.declared.wraps.WrapFault.TheVariants as fault
use Rattle.reply_text.specs.declared.outcome.Outcome.{Outcome}
use Rattle.reply_text.specs.declared.outcome.Outcome.TheVariants.{Done, Refused, Conflict, NoMemory, OddReply}
use Rattle.reply_text.specs.declared.outcome.Outcome.TheVariants.{NotListed, Listed, Full, LastOne}
use Rattle.session_records.specs.declared.outcomes.ExpectedReply.{ExpectedReply}
use Rattle.session_records.specs.declared.outcomes.ExpectedReply.TheVariants as wanted

-- if a call is refused: out of memory and another version have outcomes of their own
abbrev pub outcome_of_refusal : Refusal → Outcome
outcome_of_refusal refusal.NoMemory = NoMemory
outcome_of_refusal (refusal.Changed version) = Conflict
outcome_of_refusal other = Refused

-- if a call has another reply than the one expected
abbrev pub outcome_of_other : Reply → Outcome
outcome_of_other (reply.Refused refused) = outcome_of_refusal refused
outcome_of_other other = OddReply

-- the outcome of this reply, for the kind of reply that is expected
abbrev pub outcome_of : ExpectedReply → Reply → Outcome
outcome_of wanted.Added (reply.Added id) = Done
outcome_of wanted.Removed (reply.Removed others busy) = Done
outcome_of wanted.Status (reply.Status state by_self users) = Done
outcome_of wanted.Done reply.Done = Done
outcome_of wanted.Stored (reply.Stored version) = Done
outcome_of wanted other = outcome_of_other other

-- how a session's work ends if a list of wraps refuses a change
abbrev pub outcome_of_wraps : WrapFault → Outcome
outcome_of_wraps fault.Listed = Listed
outcome_of_wraps fault.Full = Full
outcome_of_wraps fault.NotListed = NotListed
outcome_of_wraps fault.LastOne = LastOne
outcome_of_wraps fault.NoMemory = NoMemory
