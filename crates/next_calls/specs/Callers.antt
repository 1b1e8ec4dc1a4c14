-- A caller of a script that is given its replies one by one, and the steps of its command.
use Rattle.std.specs.Prelude.{◌≡◌, ⊤, ℕ, ◌+◌, ◌<◌, length, List, slice_get, Option, Some, None, option_map}
use Rattle.mount_model.specs.declared.call.Call.{Call}
use Rattle.mount_model.specs.declared.reply.Reply.{Reply}
use Rattle.mount_model.specs.Fits.{Fits}
use Rattle.script_lang.specs.declared.commands.Section.{Section}
use Rattle.script_lang.specs.declared.commands.Command.{Command}
use Rattle.reply_text.specs.declared.notes.Note.{Note}
use Rattle.fsc_commands.specs.Steps.Steps.{Done}
use Rattle.fsc_commands.specs.Commands.{command_steps}
use Rattle.fsc_commands.specs.CommandSteps.{CommandSteps}

-- A caller with its section and the number of the command that is under way. `names` are those of the
-- last listing by the commands before it. `replies` are those to the calls of the command under way, so
-- far. `notes` are those of the commands before it. `waiting` is the call whose reply it waits for
pub record CallerView : Type 0 where
  pub caller : ℕ
  pub section : Section
  pub next : ℕ
  pub names : List (List ℕ)
  pub replies : List Reply
  pub notes : List Note
  pub waiting : Option Call

abbrev pub caller_view : ℕ → Section → ℕ → List (List ℕ) → List Reply → List Note → Option Call → CallerView
caller_view caller section next names replies notes waiting =
    record {
      caller = caller;
      section = section;
      next = next;
      names = names;
      replies = replies;
      notes = notes;
      waiting = waiting;
    }

-- a mount may be asked the call that it waits for
abbrev pub WaitingFits : Option Call → Type 0
WaitingFits None = ⊤
WaitingFits (Some call) = Fits call

-- its call that comes next, with its number
abbrev pub call_of : CallerView → Option (ℕ × Call)
call_of caller = option_map (λ call. (caller.caller, call)) caller.waiting

-- the steps of its command, if there is one
abbrev pub steps_of : List ℕ → CallerView → Option Command → CommandSteps
steps_of seed caller None = Done None
steps_of seed caller (Some command) =
    command_steps seed caller.caller caller.section.uid caller.next caller.names command.verb

-- the steps of the command that is under way
abbrev pub steps_under_way : List ℕ → CallerView → CommandSteps
steps_under_way seed caller = steps_of seed caller (slice_get caller.section.commands caller.next)

-- one command fewer is left
pub record IsNearer (old new : CallerView) : Type 0 where
  pub next : new.next ≡ old.next + 1
  pub below : old.next < length old.section.commands
