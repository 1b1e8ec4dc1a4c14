-- The theorem of a replay: what holds of it, from its first state outside to its last.
use Rattle.std.specs.Prelude.{◌≡◌, ◌⊎◌, ℕ, List, Some, Err}
use Rattle.script_lang.specs.declared.commands.Section.{Section}
use Rattle.script_lang.specs.Script.{parsed_script}
use Rattle.fsc_outside.specs.Causes.{Rose}
use Rattle.fsc_outside.specs.WholeTexts.{IsWithin}
use Rattle.fsc_outside.specs.Reads.{ReadCall}
use Rattle.fsc_tool.specs.declared.status.Status.{Status}
use Rattle.fsc_tool.specs.declared.status.Status.TheVariants.{Done, BadLine, TooLong, NoMemory}
use Rattle.fsc_tool.specs.declared.form.Seeding.{Seeding}
use Rattle.fsc_tool.specs.declared.form.Seeding.TheVariants.{Given}
use Rattle.fsc_tool.specs.Limits.{input_limits, IsLong}
use Rattle.fsc_tool.specs.Outside.{Outside}
use Rattle.fsc_tool.specs.TextOfRun.{HasText}
use Rattle.fsc_tool.specs.Ends.{Ends, IsScript}

-- the source's bytes are known to be this input, and no read failed
pub record GivenInput (a b : Outside) (input : List ℕ) : Type 0 where
  pub left : a.source.left ≡ Some input
  pub read : ¬ Rose a.source.faults b.source.faults

-- a known input within the limits that is a script, and no fault at all
pub record IsReplayable (a b : Outside) (input : List ℕ) : Type 0 where
  pub told : GivenInput a b input
  pub within : IsWithin input_limits input
  pub script : IsScript input
  pub written : ¬ Rose a.sink.faults b.sink.faults
  pub seeded : ¬ Rose a.seeds.faults b.seeds.faults

-- this status, or no memory
abbrev pub IsOrNoMemory : Status → Status → Type 0
IsOrNoMemory wanted status = (status ≡ wanted) ⊎ (status ≡ NoMemory)

-- a replay with a seed from `seeding`; `IsText` holds of a text of a run of a script with a seed,
-- `AfterReads` of the source's calls in between
pub record IsReplay (IsText : List ℕ → List Section → List ℕ → Type 0) (AfterReads : List ReadCall → Type 0)
    (seeding : Seeding) (a b : Outside) (status : Status) : Type 0 where
  -- what the status means, with its cause and what was read; the text is one of such a run
  pub ends : Ends (HasText IsText AfterReads seeding a b) AfterReads seeding a b status
  -- the seed source isn't asked if the arguments give a seed
  pub own_seed : (seed : List ℕ) → seeding ≡ Given seed → b.seeds ≡ a.seeds
  -- the other statuses, for a source with known bytes
  pub too_long : (input : List ℕ) → GivenInput a b input → IsLong input → IsOrNoMemory TooLong status
  pub bad_line : (input : List ℕ) (line : ℕ) → GivenInput a b input → IsWithin input_limits input
      → parsed_script input ≡ Err line → IsOrNoMemory (BadLine line) status
  pub complete : (input : List ℕ) → IsReplayable a b input → IsOrNoMemory Done status
