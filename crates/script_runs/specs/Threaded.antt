-- What is known of callers that ran in threads on one mount.
use Rattle.std.specs.Prelude.{◌≡◌, ℕ, List}
use Rattle.mount_shared.specs.SharedCalls.{MountPass}
use Rattle.script_lang.specs.declared.commands.Section.{Section}
use Rattle.reply_text.specs.Logged.{PlacedLogged}
use Rattle.reply_text.specs.declared.notes.Note.{Note}
use Rattle.fsc_session.specs.ScriptRun.{notes_by}
use Rattle.script_runs.specs.InRange.{AreInRange}
use Rattle.script_runs.specs.Passes.{IsAsBefore, RunFrom, Shows, calls_of}

-- the callers of a pass ran their sections, and received this; the calls that the pass has now are in range
pub record HaveRun (seed : List ℕ) (old : MountPass) (sections : List Section)
    (new : MountPass) (told : PlacedLogged) (notes : List Note) : Type 0 where
  pub as_before : IsAsBefore old new
  pub run : RunFrom seed old.who sections (calls_of new)
  pub ranged : AreInRange (calls_of new)
  pub shows : Shows told (calls_of new)
  pub noted : notes ≡ notes_by seed old.who sections (calls_of new)
