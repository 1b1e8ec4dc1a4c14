-- Which run a port's calls are.
use Rattle.std.specs.Prelude.{◌≡◌, ℕ, ◌+◌, List, length}
use Rattle.mount_model.specs.Port.{PlacedCalls}
use Rattle.script_lang.specs.declared.commands.Section.{Section}
use Rattle.reply_text.specs.Logged.{PlacedLogged, logged_calls}
use Rattle.reply_text.specs.declared.notes.Note.{Note}
use Rattle.fsc_session.specs.Session.{IsRunOfSection, notes_of_command, notes_of_section}
use Rattle.fsc_session.specs.Runners.{RunnerView, HasRun}

-- the port is as after calls that are a run of the commands before the runner's next
pub record RunSoFar {P : Type 0} (after_calls : PlacedCalls → P → Type 0) (port : P) (left before_left : ℕ)
    (seed : List ℕ) (runner : RunnerView) : Type 0 where
  pub placed : PlacedCalls
  pub reached_by_call : after_calls placed port
  pub has_run : HasRun seed runner placed
  pub counted : left + length placed ≡ before_left

-- the port is as after calls that are a run of the caller's section; the entries are what is shown of
-- them, and the notes are that run's
pub record SectionRan {P : Type 0} (after_calls : PlacedCalls → P → Type 0) (port : P) (left before_left : ℕ)
    (seed : List ℕ) (caller : ℕ) (section : Section) (entries : PlacedLogged) (notes : List Note)
    : Type 0 where
  pub placed : PlacedCalls
  pub reached_by_call : after_calls placed port
  pub shown : entries ≡ logged_calls placed
  pub run : IsRunOfSection seed caller section placed
  pub noted : notes ≡ notes_of_section seed caller section placed
  pub counted : left + length placed ≡ before_left
