-- What callers in threads on two mounts need, and what holds of them when they have ended.
use Rattle.std.specs.Prelude.{◌≡◌, ℕ, ◌*◌, List}
use Rattle.call_history.specs.Entries.{by, entries_by, entries_with_places}
use Rattle.mount_model.specs.Port.{PlacedCalls}
use Rattle.turn_lock.specs.Passes.{SharedView}
use Rattle.mount_shared.specs.SharedCalls.{MountPass}
use Rattle.reply_text.specs.Logged.{PlacedLogged, LoggedHistory}
use Rattle.script_lang.specs.declared.commands.Section.{Section}
use Rattle.fsc_commands.specs.declared.TheConstants.{MAX_CALLS}
use Rattle.fsc_session.specs.ScriptRun.{notes_by}
use Rattle.mount_links.specs.declared.step.LinkStep.{LinkStep}
use Rattle.script_runs.specs.InRange.{AreInRange}
use Rattle.script_runs.specs.Passes.{CanRun, IsAsBefore, RunFrom, Shows, calls_of}
use Rattle.linked_turns.specs.declared.output.LinkedOutput.{LinkedOutput}
use Rattle.linked_turns.specs.Parts.{HasParts, is_even}

-- something of mount 0, and the same of mount 1
pub record OnBoth (A : Type 0) : Type 0 where
  pub even : A
  pub odd : A

abbrev pub both : {A : Type 0} → A → A → OnBoth A
both even odd = record { even = even; odd = odd }

-- passes to both mounts, of the same callers. On mount 1 a command may make twice as many calls
pub record CanRunOnBoth (shared : OnBoth SharedView) (passes : OnBoth MountPass) (sections : List Section)
    : Type 0 where
  pub on_even : CanRun MAX_CALLS shared.even passes.even sections
  pub on_odd : CanRun (2 * MAX_CALLS) shared.odd passes.odd sections
  pub same_caller : passes.odd.who ≡ passes.even.who

-- passes that have all numbers of their machines, from 0 on
pub record AreFirst (shared : OnBoth SharedView) (passes : OnBoth MountPass) : Type 0 where
  pub even_first : passes.even.who ≡ 0
  pub odd_first : passes.odd.who ≡ 0
  pub even_all : passes.even.high ≡ shared.even.numbers
  pub odd_all : passes.odd.high ≡ shared.odd.numbers

-- if the shown entries of one history are given caller by caller, they are put in their order
abbrev pub IsPutInOrder : PlacedLogged → PlacedLogged → Type 0
IsPutInOrder old new = (history : LoggedHistory) → ((caller : ℕ) → by caller old ≡ entries_by caller history)
    → new ≡ entries_with_places 0 history

-- the callers of passes to both mounts made these calls, which are runs of their sections, and both passes
-- have of them what is on their mount
pub record HaveCalled (seed : List ℕ) (who : ℕ) (sections : List Section) (made even odd : PlacedCalls)
    : Type 0 where
  pub run : RunFrom seed who sections made
  pub parts : (caller : ℕ) → (steps : List LinkStep)
      × HasParts (is_even caller) steps (by caller made) (by caller even) (by caller odd)

-- the callers of the passes ran their sections, and these are their results; the calls that the passes
-- have now are in range
pub record HaveRun (seed : List ℕ) (old : OnBoth MountPass) (sections : List Section)
    (new : OnBoth MountPass) (told : LinkedOutput) : Type 0 where
  pub made : PlacedCalls
  pub even_as_before : IsAsBefore old.even new.even
  pub odd_as_before : IsAsBefore old.odd new.odd
  pub called : HaveCalled seed old.even.who sections made (calls_of new.even) (calls_of new.odd)
  pub even_ranged : AreInRange (calls_of new.even)
  pub odd_ranged : AreInRange (calls_of new.odd)
  pub shows_even : Shows told.even.items (calls_of new.even)
  pub shows_odd : Shows told.odd.items (calls_of new.odd)
  pub noted : told.notes.items ≡ notes_by seed old.even.who sections made
