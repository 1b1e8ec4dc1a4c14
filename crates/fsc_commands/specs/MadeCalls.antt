-- What a command, or a part of it, does to its port.
use Rattle.std.specs.Prelude.{◌≡◌, ℕ, ◌+◌, ◌≤◌, ◌++◌, length, Result}
use Rattle.call_history.specs.Entries.{entry}
use Rattle.call_history.specs.Placed.{entries_of}
use Rattle.mount_model.specs.Port.{PlacedCalls}
use Rattle.mount_model.specs.declared.call.Call.{Call}
use Rattle.mount_model.specs.History.{MountEntry}
use Rattle.reply_text.specs.Logged.{PlacedLogged, LoggedEntry, logged_calls}
use Rattle.reply_text.specs.declared.outcome.Outcome.{Outcome}
use Rattle.fsc_commands.specs.Steps.{Steps, Reaches}
use Rattle.fsc_commands.specs.Steps.Steps.{Done}
use Rattle.fsc_commands.specs.CommandSteps.{CommandSteps, when_ok}

-- the port is as it is after at most `most` calls, which are these steps and leave this value; the list has
-- the shown entries of these calls after its others
pub record MadeCalls {P A : Type 0} (after_calls : PlacedCalls → P → Type 0) (port : P)
    (left before_left most : ℕ)
    (steps : Steps A) (value : A) (old new : PlacedLogged) : Type 0 where
  pub made : PlacedCalls
  pub reached_by_call : after_calls made port
  pub follows : Reaches steps (entries_of made) (Done value)
  pub grown : new ≡ old ++ logged_calls made
  pub few : length made ≤ most
  pub counted : left + length made ≡ before_left

-- the same for a part of a session's work: whatever comes after it, it goes on with `got`
pub record MadePart {P A : Type 0} (after_calls : PlacedCalls → P → Type 0) (port : P)
    (left before_left most : ℕ)
    (steps : (A → CommandSteps) → CommandSteps) (got : Result A Outcome) (old new : PlacedLogged)
    : Type 0 where
  pub made : PlacedCalls
  pub reached_by_call : after_calls made port
  pub follows : (next : A → CommandSteps) → Reaches (steps next) (entries_of made) (when_ok got next)
  pub grown : new ≡ old ++ logged_calls made
  pub few : length made ≤ most
  pub counted : left + length made ≡ before_left

-- the entry of the caller's call from its shown entry, with its place
abbrev pub entry_of_logged : ℕ → Call → ℕ × LoggedEntry → ℕ × MountEntry
entry_of_logged caller call placed = (placed.0, entry caller call placed.1.reply)

-- the port is as it is after at most `most` calls, with which these steps begin: each is the one that they
-- ask for after the calls before it and their replies
pub record Begun {P A : Type 0} (after_calls : PlacedCalls → P → Type 0) (port : P) (most : ℕ)
    (steps : Steps A)
    : Type 0 where
  pub made : PlacedCalls
  pub rest : Steps A
  pub reached_by_call : after_calls made port
  pub begins : Reaches steps (entries_of made) rest
  pub few : length made ≤ most

-- the same for a part of a session's work, whatever comes after it
pub record BegunPart {P A : Type 0} (after_calls : PlacedCalls → P → Type 0) (port : P) (most : ℕ)
    (steps : (A → CommandSteps) → CommandSteps) : Type 0 where
  pub made : PlacedCalls
  pub reached_by_call : after_calls made port
  pub begins : (next : A → CommandSteps) → (rest : CommandSteps) × Reaches (steps next) (entries_of made) rest
  pub few : length made ≤ most
