-- The state between two turns, while the callers of a script take turns on two mounts.
use Rattle.std.specs.Prelude.{◌≡◌, ℕ, List, [], ◌++◌, map, slice_get, Some, None}
use Rattle.call_history.specs.Entries.{by}
use Rattle.mount_model.specs.History.{History}
use Rattle.mount_model.specs.Port.{PlacedCalls}
use Rattle.script_lang.specs.declared.commands.Section.{Section}
use Rattle.fsc_commands.specs.Steps.{Steps}
use Rattle.fsc_session.specs.Runners.{state_of}
use Rattle.fsc_session.specs.Rotation.{Waiting}
use Rattle.mount_links.specs.declared.step.LinkStep.{LinkStep}
use Rattle.script_runs.specs.Callers as runs
use Rattle.script_runs.specs.InRange.{AreInRange}
use Rattle.script_runs.specs.Turns.{Rotates, RunnerTurn}
use Rattle.script_runs.specs.MountPlaces.{At, Goes, Stands}
use Rattle.linked_turns.specs.declared.runners.LinkedRunner.{LinkedRunner}
use Rattle.linked_turns.specs.Callers.{runners_of}
use Rattle.linked_turns.specs.Parts.{AreLinked, HasParts, is_even, parts_0, parts_1}

-- the runners between two turns
abbrev pub states_of : List LinkedRunner → List Waiting
states_of callers = map state_of (runners_of callers)

-- the sections whose callers these are
abbrev pub sections_of : List LinkedRunner → List Section
sections_of callers = runs.sections_of (runners_of callers)

-- the mounts are in the state after their entries, which are the runners' alone and in range; and they have
-- their parts of each runner's calls, whose steps the runner has
pub record Rotating {M N : Type 0} (reaches_0 : History → M → Type 0) (reaches_1 : History → N → Type 0)
    (seed : List ℕ) (script : List Section) (whole rest : Steps (List Waiting))
    (turns : ℕ → ℕ) (callers : List LinkedRunner) (even_mount : At M) (odd_mount : At N) : Type 0 where
  pub told : PlacedCalls
  pub even : PlacedCalls
  pub odd : PlacedCalls
  pub even_stands : Stands reaches_0 even even_mount
  pub odd_stands : Stands reaches_1 odd odd_mount
  pub even_ranged : AreInRange even
  pub odd_ranged : AreInRange odd
  pub rotates : Rotates seed script whole rest turns (runners_of callers) told
  pub parts : (j : ℕ) (caller : LinkedRunner) → slice_get callers j ≡ Some caller
      → HasParts (is_even j) caller.steps.items (by j told) (by j even) (by j odd)
  pub others : (j : ℕ) → slice_get callers j ≡ None → (by j even ≡ []) × (by j odd ≡ [])
  pub steps : List LinkStep
  pub linked : AreLinked steps told
  pub even_is : even ≡ parts_0 steps told
  pub odd_is : odd ≡ parts_1 steps told

-- a runner's turn: these calls, and their parts on the mounts
pub record LinkedTurnOf {M N : Type 0} (reaches_0 : History → M → Type 0) (reaches_1 : History → N → Type 0)
    (seed : List ℕ) (even_mount : At M) (odd_mount : At N) (old : LinkedRunner)
    (even_mount' : At M) (odd_mount' : At N) (new : LinkedRunner) : Type 0 where
  pub made : PlacedCalls
  pub even : PlacedCalls
  pub odd : PlacedCalls
  pub taken : RunnerTurn seed old.runner new.runner made
  pub even_goes : Goes reaches_0 old.runner.caller even_mount even even_mount'
  pub odd_goes : Goes reaches_1 old.runner.caller odd_mount odd odd_mount'
  pub even_ranged : AreInRange even
  pub odd_ranged : AreInRange odd
  pub steps : List LinkStep
  pub kept : new.steps.items ≡ old.steps.items ++ steps
  pub parts : HasParts (is_even old.runner.caller) steps made even odd
  pub all : List LinkStep
  pub linked : AreLinked all made
  pub even_is : even ≡ parts_0 all made
  pub odd_is : odd ≡ parts_1 all made
