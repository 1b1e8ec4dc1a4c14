-- What a command asks of the mount.
use Rattle.std.specs.Prelude.{ℕ, List, Option, Some, None, IfSome, IsTrue}
use Rattle.mount_model.specs.declared.call.Op.{Op}
use Rattle.mount_model.specs.Fits.{OpFits}
use Rattle.mount_model.specs.Carriers.{carries_bytes}
use Rattle.script_lang.specs.declared.verb.Verb.{Verb}
use Rattle.fsc_commands.specs.Steps.Steps.{Done}
use Rattle.fsc_commands.specs.CommandSteps.{CommandSteps, asking}
use Rattle.fsc_commands.specs.Tasks.{Task, task_of}
use Rattle.fsc_commands.specs.Tasks.Task.{Single, Session, Idle}

-- the call, if it is a single one
abbrev pub single_call : Task → Option Op
single_call (Single asked) = Some asked
single_call (Session steps) = None
single_call Idle = None

-- the call of a command that is a single one
abbrev pub plain_op : List ℕ → ℕ → ℕ → ℕ → List (List ℕ) → Verb → Option Op
plain_op seed caller uid number names asked = single_call (task_of seed caller uid number names asked)

-- if there is a call, a mount may be asked for it
abbrev pub AnyFits : Option Op → Type 0
AnyFits asked = IfSome asked OpFits

-- there is a call, and it carries a path or bytes, so that making it may run out of memory
abbrev pub MayTakeMemory : Option Op → Type 0
MayTakeMemory None = ⊥
MayTakeMemory (Some asked) = IsTrue (carries_bytes asked)

-- the steps of a single call, which has no outcome, and those of a session's work; a pause is done at once,
-- without a call and without an outcome
abbrev pub task_steps : ℕ → ℕ → Task → CommandSteps
task_steps caller uid (Single asked) = asking caller uid asked (λ reply. Done None)
task_steps caller uid (Session steps) = steps
task_steps caller uid Idle = Done None

-- the steps of a command
abbrev pub command_steps : List ℕ → ℕ → ℕ → ℕ → List (List ℕ) → Verb → CommandSteps
command_steps seed caller uid number names asked =
    task_steps caller uid (task_of seed caller uid number names asked)
