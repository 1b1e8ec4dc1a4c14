-- The result of a run of a script in threads on two mounts.
use Rattle.std.specs.Prelude.{◌≡◌, ℕ, List}
use Rattle.call_history.specs.Entries.{entries_with_places}
use Rattle.mount_model.specs.History.{History}
use Rattle.mount_model.specs.Port.{PlacedCalls}
use Rattle.script_lang.specs.declared.commands.Section.{Section}
use Rattle.reply_text.specs.Logged.{PlacedLogged, logged_history}
use Rattle.reply_text.specs.declared.notes.Note.{Note}
use Rattle.fsc_session.specs.ScriptRun.{notes_by}
use Rattle.linked_turns.specs.LinkedRuns.{HaveLinkedCalls}

-- there are two histories that have the callers' calls, each caller's those of its section, and no other
-- calls. The entries are their shown form, each in order of place; and these are the notes
pub record IsLinkedLogOfCalls (lawful_0 lawful_1 : History → Type 0) (seed : List ℕ) (script : List Section)
    (even_logged_calls odd_logged_calls : PlacedLogged) (notes : List Note) : Type 0 where
  pub told : PlacedCalls
  pub even : History
  pub odd : History
  pub calls : HaveLinkedCalls lawful_0 lawful_1 seed script told even odd
  pub even_in_place : even_logged_calls ≡ entries_with_places 0 (logged_history even)
  pub odd_in_place : odd_logged_calls ≡ entries_with_places 0 (logged_history odd)
  pub noted : notes ≡ notes_by seed 0 script told
