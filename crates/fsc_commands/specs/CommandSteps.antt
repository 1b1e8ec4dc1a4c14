-- The pieces of which the steps of commands are made.
use Rattle.std.specs.Prelude.{ℕ, Option, Some, Result, Ok, Err}
use Rattle.mount_model.specs.declared.call.Call.{Call}
use Rattle.mount_model.specs.declared.call.Op.{Op}
use Rattle.mount_model.specs.declared.reply.Reply.{Reply}
use Rattle.reply_text.specs.declared.outcome.Outcome.{Outcome}
use Rattle.session_records.specs.declared.outcomes.ExpectedReply.{ExpectedReply}
use Rattle.session_records.specs.Outcomes.{outcome_of}
use Rattle.fsc_commands.specs.Steps.{Steps}
use Rattle.fsc_commands.specs.Steps.Steps.{Done, Ask}

-- the steps of a command: a session's work ends with an outcome, a single call or a pause without one
abbrev pub CommandSteps : Type 0
CommandSteps = Steps (Option Outcome)

abbrev pub call_of_caller : ℕ → Op → Call
call_of_caller uid asked = record { uid = uid; op = asked }

-- a call for a user, and the steps after its reply
abbrev pub asking : ℕ → ℕ → Op → (Reply → CommandSteps) → CommandSteps
asking caller uid asked next = Ask caller (call_of_caller uid asked) next

-- a session's work ends with this outcome
abbrev pub end_with : Outcome → CommandSteps
end_with outcome = Done (Some outcome)

-- it goes on with a value, or ends with an outcome
abbrev pub when_ok : {A : Type 0} → Result A Outcome → (A → CommandSteps) → CommandSteps
when_ok (Err outcome) next = end_with outcome
when_ok (Ok value) next = next value

-- the last call, if `wanted` is the expected reply
abbrev pub last_call : ℕ → ℕ → Op → ExpectedReply → CommandSteps
last_call caller uid asked wanted = asking caller uid asked (λ reply. end_with (outcome_of wanted reply))
