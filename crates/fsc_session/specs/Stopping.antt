-- The calls of a caller that was out of memory in the middle of a command.
use Rattle.std.specs.Prelude.{◌≡◌, ℕ, ◌≤◌, List, ◌++◌, length, slice_get, Option, Some, None}
use Rattle.call_history.specs.Placed.{entries_of}
use Rattle.mount_model.specs.Port.{PlacedCalls}
use Rattle.script_lang.specs.declared.commands.Section.{Section}
use Rattle.script_lang.specs.declared.commands.Command.{Command}
use Rattle.fsc_commands.specs.declared.TheConstants.{MAX_CALLS}
use Rattle.fsc_commands.specs.Steps.{Reaches, names_in}
use Rattle.fsc_commands.specs.Steps.Steps.{Done}
use Rattle.fsc_commands.specs.Commands.{command_steps}
use Rattle.fsc_commands.specs.CommandSteps.{CommandSteps}
use Rattle.fsc_session.specs.Meaning.{IsBegunBy}
use Rattle.fsc_session.specs.Runners.{RunnerView, HasRun}

-- the steps of a runner's command, if there is one
abbrev pub steps_of : List ℕ → RunnerView → Option Command → CommandSteps
steps_of seed runner None = Done None
steps_of seed runner (Some command) =
    command_steps seed runner.caller runner.section.uid runner.next (names_in runner.entries) command.verb

-- the steps of its next command, while one is left
abbrev pub next_steps : List ℕ → RunnerView → CommandSteps
next_steps seed runner = steps_of seed runner (slice_get runner.section.commands runner.next)

-- the port is as after the calls of a runner of the caller's section, a run of the commands before its
-- next, then calls that begin that command's steps. All of them are a beginning of a run of the section
pub record SectionBeforeStop {P : Type 0} (after_calls : PlacedCalls → P → Type 0) (port : P)
    (seed : List ℕ) (caller : ℕ) (section : Section) : Type 0 where
  pub runner : RunnerView
  pub told : PlacedCalls
  pub made : PlacedCalls
  pub rest : CommandSteps
  pub reached_by_call : after_calls (told ++ made) port
  pub own : (runner.caller ≡ caller) × (runner.section ≡ section)
  pub has_run : HasRun seed runner told
  pub begins : Reaches (next_steps seed runner) (entries_of made) rest
  pub few : length made ≤ MAX_CALLS
  pub begun : IsBegunBy seed caller (Some section) (told ++ made)
