-- What the text of a run on two mounts means: with the script and the seed of the run, the text alone
-- determines the calls and replies of each caller, and so what each mount was.
use Rattle.std.specs.Prelude.{◌≡◌, ℕ, List}
use Rattle.call_history.specs.Entries.{by}
use Rattle.mount_model.specs.History.{History}
use Rattle.mount_model.specs.Port.{PlacedCalls}
use Rattle.script_lang.specs.declared.commands.Section.{Section}
use Rattle.fsc_session.specs.ScriptRun.{notes_by}
use Rattle.linked_turns.specs.LinkedRuns.{HaveLinkedParts}
use Rattle.linked_turns.specs.LinkedText.{both_logs}

-- the callers' calls of a run on two mounts, and both histories
pub record OnTwoMounts : Type 0 where
  pub told : PlacedCalls
  pub even : History
  pub odd : History

-- a run of the script with the seed, in turns or in threads, whatever the machines could answer
abbrev pub IsRunOnTwo : List ℕ → List Section → OnTwoMounts → Type 0
IsRunOnTwo seed script run = HaveLinkedParts seed script run.told run.even run.odd

-- its text
abbrev pub text_of : List ℕ → List Section → OnTwoMounts → List ℕ
text_of seed script run = both_logs run.even run.odd (notes_by seed 0 script run.told)

-- both have the same histories, and each caller made the same calls, with the same places and replies
pub record AreSameRuns (g h : OnTwoMounts) : Type 0 where
  pub same_even : g.even ≡ h.even
  pub same_odd : g.odd ≡ h.odd
  pub same_calls : (caller : ℕ) → by caller g.told ≡ by caller h.told

-- two runs of a script with one seed on two mounts that have one text are the same
abbrev pub LinkedLogsHaveOneMeaning : Type 0
LinkedLogsHaveOneMeaning =
    (seed : List ℕ) (script : List Section) (g h : OnTwoMounts) → IsRunOnTwo seed script g
    → IsRunOnTwo seed script h → text_of seed script g ≡ text_of seed script h → AreSameRuns g h
