-- The state between two turns, while the callers of a script take turns on one mount.
use Rattle.std.specs.Prelude.{ℕ, List}
use Rattle.mount_model.specs.History.{History}
use Rattle.mount_model.specs.Port.{PlacedCalls}
use Rattle.script_lang.specs.declared.commands.Section.{Section}
use Rattle.fsc_commands.specs.Steps.{Steps}
use Rattle.fsc_session.specs.Runners.{RunnerView}
use Rattle.fsc_session.specs.Rotation.{Waiting}
use Rattle.script_runs.specs.InRange.{AreInRange}
use Rattle.script_runs.specs.Turns.{Rotates, RunnerTurn}
use Rattle.script_runs.specs.MountPlaces.{At, Goes, Stands}

-- the mount is in the state after the calls `told`, which are the runners' and in range
pub record Rotating {M : Type 0} (reaches : History → M → Type 0) (seed : List ℕ) (script : List Section)
    (whole rest : Steps (List Waiting)) (turns : ℕ → ℕ) (runners : List RunnerView) (mount : At M)
    : Type 0 where
  pub told : PlacedCalls
  pub represents : Stands reaches told mount
  pub ranged : AreInRange told
  pub rotates : Rotates seed script whole rest turns runners told

-- a runner's turn on the mount: these calls
pub record TurnOf {M : Type 0} (reaches : History → M → Type 0) (seed : List ℕ)
    (mount : At M) (old : RunnerView) (mount' : At M) (new : RunnerView) : Type 0 where
  pub made : PlacedCalls
  pub goes : Goes reaches old.caller mount made mount'
  pub ranged : AreInRange made
  pub taken : RunnerTurn seed old new made
