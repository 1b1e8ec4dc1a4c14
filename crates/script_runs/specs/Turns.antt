-- The runners of a script between two turns, and what a turn makes of one, on one mount or on two.
use Rattle.std.specs.Prelude.{◌≡◌, ℕ, min, Bool, List, [], ◌++◌, length, slice_get, Some, None}
use Rattle.call_history.specs.Entries.{by}
use Rattle.call_history.specs.Placed.{entries_of}
use Rattle.mount_model.specs.Port.{PlacedCalls}
use Rattle.script_lang.specs.declared.commands.Section.{Section}
use Rattle.reply_text.specs.Logged.{logged_calls}
use Rattle.fsc_commands.specs.Steps.{Steps, Reaches}
use Rattle.fsc_session.specs.Asking.{AsksRightly}
use Rattle.fsc_session.specs.Running.{StepMakes}
use Rattle.fsc_session.specs.Runners.{RunnerView, HasRun}
use Rattle.fsc_session.specs.Rotation.{Waiting}

-- runner j is caller j of the script and had `turns` turns: the calls that it made are a run of the
-- commands before its next, and it has their shown entries
pub record InTurn (seed : List ℕ) (script : List Section) (told : PlacedCalls)
    (turns j : ℕ) (runner : RunnerView) : Type 0 where
  pub caller : runner.caller ≡ j
  pub section : slice_get script j ≡ Some runner.section
  pub asked : AsksRightly runner.section
  pub next : runner.next ≡ min turns (length runner.section.commands)
  pub run : HasRun seed runner (by j told)

-- the calls are the runners' alone; and after them the steps of the whole script have these left
pub record Rotates (seed : List ℕ) (script : List Section) (whole rest : Steps (List Waiting))
    (turns : ℕ → ℕ) (runners : List RunnerView) (told : PlacedCalls) : Type 0 where
  pub count : length runners ≡ length script
  pub each : (j : ℕ) (runner : RunnerView) → slice_get runners j ≡ Some runner
      → InTurn seed script told (turns j) j runner
  pub others : (j : ℕ) → slice_get runners j ≡ None → by j told ≡ []
  pub order : Reaches whole (entries_of told) rest

-- a runner's turn: it made these calls
pub record RunnerTurn (seed : List ℕ) (old new : RunnerView) (made : PlacedCalls) : Type 0 where
  pub more : Bool
  pub own : by old.caller made ≡ made
  pub grown : new.entries ≡ old.entries ++ logged_calls made
  pub caller : new.caller ≡ old.caller
  pub section : new.section ≡ old.section
  pub step : StepMakes seed more old new made
  pub run : (before : PlacedCalls) → HasRun seed old before → HasRun seed new (before ++ made)
