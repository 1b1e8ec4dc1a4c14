-- The effect of a command on a runner and its port.
use Rattle.std.specs.Prelude.{◌≡◌, ℕ, ◌+◌, ◌≤◌, Bool, true, false, List, [], ◌++◌, length, slice_get, Option}
use Rattle.std.specs.Prelude.{Some, None}
use Rattle.call_history.specs.Placed.{entries_of}
use Rattle.mount_model.specs.Port.{PlacedCalls}
use Rattle.script_lang.specs.declared.commands.Command.{Command}
use Rattle.reply_text.specs.Logged.{logged_calls}
use Rattle.reply_text.specs.declared.outcome.Outcome.{Outcome}
use Rattle.fsc_commands.specs.declared.TheConstants.{MAX_CALLS}
use Rattle.fsc_commands.specs.Steps.{Reaches, names_in}
use Rattle.fsc_commands.specs.Steps.Steps.{Done}
use Rattle.fsc_commands.specs.Commands.{command_steps}
use Rattle.fsc_session.specs.Session.{notes_of_command}
use Rattle.fsc_session.specs.Runners.{RunnerView, HasRun}

-- the steps of a runner's command made these calls, and its note, if it has one, was appended
abbrev pub CommandMakes : List ℕ → Command → RunnerView → RunnerView → PlacedCalls → Type 0
CommandMakes seed command old new made =
    (outcome : Option Outcome)
    × Reaches (command_steps seed old.caller old.section.uid old.next (names_in old.entries) command.verb)
    (entries_of made) (Done outcome)
    × (new.notes ≡ old.notes ++ notes_of_command old.caller command outcome)

-- no command was left, and nothing was called; or the next command made these calls
abbrev pub StepMakes : List ℕ → Bool → RunnerView → RunnerView → PlacedCalls → Type 0
StepMakes seed false old new made =
    (made ≡ []) × (new ≡ old) × (slice_get old.section.commands old.next ≡ None)
StepMakes seed true old new made =
    (command : Command) × (slice_get old.section.commands old.next ≡ Some command) × (new.next ≡ old.next + 1)
    × CommandMakes seed command old new made

-- the effect of a step on a runner and its port
pub record RunnerStep {P : Type 0} (after_calls : PlacedCalls → P → Type 0) (port : P) (left before_left : ℕ)
    (seed : List ℕ) (more : Bool) (old new : RunnerView) : Type 0 where
  pub made : PlacedCalls
  pub reached_by_call : after_calls made port
  pub grown : new.entries ≡ old.entries ++ logged_calls made
  pub few : length made ≤ MAX_CALLS
  pub counted : left + length made ≡ before_left
  pub caller : new.caller ≡ old.caller
  pub section : new.section ≡ old.section
  pub step : StepMakes seed more old new made
  pub run : (placed : PlacedCalls) → HasRun seed old placed → HasRun seed new (placed ++ made)
