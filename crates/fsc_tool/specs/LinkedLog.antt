-- The text of a run of a script on two mounts.
use Rattle.std.specs.Prelude.{◌≡◌, ℕ, List}
use Rattle.mount_model.specs.History.{History, IsLegal, NeverOutOfMemory}
use Rattle.mount_model.specs.Port.{PlacedCalls}
use Rattle.script_lang.specs.declared.commands.Section.{Section}
use Rattle.fsc_session.specs.ScriptRun.{notes_by, notes_of}
use Rattle.linked_turns.specs.LinkedRuns.{HaveLinkedCalls, IsLinkedRun}
use Rattle.linked_turns.specs.LinkedSerial.{linked_calls, linked_histories}
use Rattle.linked_turns.specs.LinkedText.{both_logs}

-- the text of a script's run in which each call is answered by the mounts as the calls before it leave
-- them: a function of script and seed alone
abbrev pub serial_logs : List ℕ → List Section → List ℕ
serial_logs seed script =
    both_logs (linked_histories seed script).even (linked_histories seed script).odd
    (notes_of seed script (linked_calls seed script))

-- the text is that of two histories that are a run of the script with the seed in which the callers took
-- turns, and of the notes of that run; it is a function of script and seed if the one-thread mount could
-- answer so and no call was out of memory
pub record IsLinkedLog (lawful_0 lawful_1 : History → Type 0) (seed : List ℕ) (script : List Section)
    (text : List ℕ) : Type 0 where
  pub even : History
  pub odd : History
  pub run : IsLinkedRun lawful_0 lawful_1 seed script even odd
  pub log : text ≡ both_logs even odd (notes_by seed 0 script run.told)
  pub fixed : IsLegal even → IsLegal odd → NeverOutOfMemory even → NeverOutOfMemory odd
      → text ≡ serial_logs seed script

-- the text is that of two histories with the calls of the script's callers, with the seed, that don't wait
-- for one another, and of the notes of those calls
pub record IsLinkedLogOfThreads (lawful_0 lawful_1 : History → Type 0) (seed : List ℕ)
    (script : List Section) (text : List ℕ) : Type 0 where
  pub told : PlacedCalls
  pub even : History
  pub odd : History
  pub calls : HaveLinkedCalls lawful_0 lawful_1 seed script told even odd
  pub log : text ≡ both_logs even odd (notes_by seed 0 script told)
