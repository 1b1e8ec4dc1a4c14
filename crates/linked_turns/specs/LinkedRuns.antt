-- What a run of a script on two mounts is whose callers take turns.
use Rattle.std.specs.Prelude.{◌≡◌, ◌<◌, ◌^◌, ℕ, List, length, slice_get, All}
use Rattle.call_history.specs.Entries.{by, entries_by, entries_with_places}
use Rattle.call_history.specs.Placed.{entries_of}
use Rattle.mount_model.specs.History.{History, IsLegal, NeverOutOfMemory}
use Rattle.mount_model.specs.Port.{PlacedCalls}
use Rattle.script_lang.specs.declared.commands.Section.{Section}
use Rattle.reply_text.specs.Ranges.{EntryIsInRange}
use Rattle.reply_text.specs.Logged.{PlacedLogged, logged_history}
use Rattle.reply_text.specs.declared.notes.Note.{Note}
use Rattle.fsc_commands.specs.Steps.{Reaches}
use Rattle.fsc_commands.specs.Steps.Steps.{Done}
use Rattle.fsc_session.specs.ScriptRun.{IsRunOfCaller, notes_by}
use Rattle.fsc_session.specs.Rotation.{Waiting, rotation_steps}
use Rattle.mount_links.specs.declared.step.LinkStep.{LinkStep}
use Rattle.linked_turns.specs.LinkedSerial.{histories, linked_calls, linked_histories}
use Rattle.linked_turns.specs.Parts.{AreLinked, HasParts, is_even, parts_0, parts_1}

-- of the calls `told`, each caller made those of its section; and each history has of them, caller by
-- caller, what is on its mount, and no other calls. It has fewer entries than there are places, and holds
-- values of the program alone
pub record HaveLinkedParts (seed : List ℕ) (script : List Section) (told : PlacedCalls) (even odd : History)
    : Type 0 where
  pub callers : (caller : ℕ) → IsRunOfCaller seed caller (slice_get script caller) (by caller told)
  pub parts : (caller : ℕ) → (steps : List LinkStep)
      × HasParts (is_even caller) steps (by caller told) (entries_by caller even) (entries_by caller odd)
  pub short_even : length even < 2 ^ 64
  pub short_odd : length odd < 2 ^ 64
  pub ranged_even : All EntryIsInRange even
  pub ranged_odd : All EntryIsInRange odd

-- the machine of mount 0 could answer as in the one history, that of mount 1 as in the other; and both have
-- their parts of the callers' calls
pub record HaveLinkedCalls (lawful_0 lawful_1 : History → Type 0) (seed : List ℕ) (script : List Section)
    (told : PlacedCalls) (even odd : History) : Type 0 where
  pub lawful_even : lawful_0 even
  pub lawful_odd : lawful_1 odd
  pub linked : HaveLinkedParts seed script told even odd

-- both histories have the calls that callers make in turns, the script's in rotation; each holds of them,
-- in that order, what is on its mount, and no other calls. If the one-thread mount could answer so and no
-- call was out of memory, both are a function of script and seed, and so are the calls
pub record IsLinkedRun (lawful_0 lawful_1 : History → Type 0) (seed : List ℕ) (script : List Section)
    (even odd : History) : Type 0 where
  pub told : PlacedCalls
  pub calls : HaveLinkedCalls lawful_0 lawful_1 seed script told even odd
  pub order : (after : List Waiting) × Reaches (rotation_steps seed script) (entries_of told) (Done after)
  pub steps : List LinkStep
  pub linked : AreLinked steps told
  pub even_is : entries_with_places 0 even ≡ parts_0 steps told
  pub odd_is : entries_with_places 0 odd ≡ parts_1 steps told
  pub serial : IsLegal even → IsLegal odd → NeverOutOfMemory even → NeverOutOfMemory odd
      → histories even odd ≡ linked_histories seed script
  pub serial_calls : IsLegal even → IsLegal odd → NeverOutOfMemory even → NeverOutOfMemory odd
      → entries_of told ≡ linked_calls seed script

-- the entries are the shown entries of the histories of such a run, each in order of place; and these are
-- its notes
pub record IsLinkedLogOf (lawful_0 lawful_1 : History → Type 0) (seed : List ℕ) (script : List Section)
    (even_logged_calls odd_logged_calls : PlacedLogged) (notes : List Note) : Type 0 where
  pub even : History
  pub odd : History
  pub run : IsLinkedRun lawful_0 lawful_1 seed script even odd
  pub even_in_place : even_logged_calls ≡ entries_with_places 0 (logged_history even)
  pub odd_in_place : odd_logged_calls ≡ entries_with_places 0 (logged_history odd)
  pub noted : notes ≡ notes_by seed 0 script run.told
