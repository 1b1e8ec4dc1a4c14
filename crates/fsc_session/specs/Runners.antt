-- The state of a runner between two commands.
use Rattle.std.specs.Prelude.{◌≡◌, ℕ, Bool, false, List, length, Option, Some, None, nat_lt, if◌then◌else◌}
use Rattle.mount_model.specs.Port.{PlacedCalls}
use Rattle.script_lang.specs.declared.commands.Section.{Section}
use Rattle.reply_text.specs.Logged.{PlacedLogged, logged_calls}
use Rattle.reply_text.specs.declared.notes.Note.{Note}
use Rattle.fsc_commands.specs.Steps.{names_in}
use Rattle.fsc_session.specs.Session.{IsRunSoFar}
use Rattle.fsc_session.specs.Rotation.{Waiting, waiting}

-- a caller with its section, the number of its next command, what is shown of its calls so far with the
-- replies, and its notes. It is spent once a step was out of memory
pub record RunnerView : Type 0 where
  pub caller : ℕ
  pub section : Section
  pub next : ℕ
  pub entries : PlacedLogged
  pub notes : List Note
  pub spent : Bool

-- one that is not spent
abbrev pub runner_view : ℕ → Section → ℕ → PlacedLogged → List Note → RunnerView
runner_view caller section next entries notes =
    record {
      caller = caller;
      section = section;
      next = next;
      entries = entries;
      notes = notes;
      spent = false;
    }

-- the same runner, spent or not
abbrev pub spent_if : Bool → RunnerView → RunnerView
spent_if spent runner = record runner { spent = spent }

-- the number of its next command, while one is left
abbrev pub next_command : RunnerView → Option ℕ
next_command runner = if nat_lt runner.next (length runner.section.commands) then Some runner.next else None

-- these calls are a run of the commands before its next, with this seed; it has what is shown of them,
-- and that run's notes
pub record HasRun (seed : List ℕ) (runner : RunnerView) (placed : PlacedCalls) : Type 0 where
  pub shown : runner.entries ≡ logged_calls placed
  pub run : IsRunSoFar seed runner.caller runner.section runner.next placed runner.notes

-- the runner between two turns
abbrev pub state_of : RunnerView → Waiting
state_of runner = waiting runner.section (names_in runner.entries)
