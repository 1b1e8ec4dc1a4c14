-- What a run did between its first and its last state outside, by the status that it ends with. `IsText`
-- holds of the text that it writes if it is done, `AfterReads` of the source's calls in between.
use Rattle.std.specs.Prelude.{◌≡◌, ◌⊎◌, ℕ, List, Ok}
use Rattle.script_lang.specs.declared.commands.Section.{Section}
use Rattle.script_lang.specs.Script.{parsed_script}
use Rattle.fsc_outside.specs.WholeTexts.{ReadWhole}
use Rattle.fsc_outside.specs.Reads.{ReadCall}
use Rattle.fsc_tool.specs.declared.status.Status.{Status}
use Rattle.fsc_tool.specs.declared.status.Status.TheVariants.{Done, Usage, BadLine, ReadFault, WriteFault}
use Rattle.fsc_tool.specs.declared.status.Status.TheVariants.{SeedFault, TooLong, Refused, NoMemory}
use Rattle.fsc_tool.specs.declared.form.Seeding.{Seeding}
use Rattle.fsc_tool.specs.declared.form.Seeding.TheVariants.{Asked}
use Rattle.fsc_tool.specs.Limits.{input_limits}
use Rattle.fsc_tool.specs.Outside.{Outside}
use Rattle.fsc_tool.specs.Seed.{FailedSeed, IsSeedOf}
use Rattle.fsc_tool.specs.TextEnds.{EndsDone, EndsWriteFault}
use Rattle.fsc_tool.specs.ReadEnds.{EndsReadFault, EndsTooLong, EndsBadLine, ReadSome}

-- a text that is a script
abbrev pub IsScript : List ℕ → Type 0
IsScript text = (script : List Section) × (parsed_script text ≡ Ok script)

-- the arguments give no seed, the source gave a script, and the seed source failed; nothing was written
pub record EndsSeedFault (AfterReads : List ReadCall → Type 0) (seeding : Seeding) (a b : Outside)
    : Type 0 where
  pub asked : seeding ≡ Asked
  pub input : List ℕ
  pub read : ReadWhole input_limits AfterReads a.source b.source input
  pub script : IsScript input
  pub seeds : FailedSeed a.seeds b.seeds
  pub unwritten : b.sink ≡ a.sink

-- there was no memory, before the seed was taken or after; nothing failed, and nothing was written
pub record EndsNoMemory (AfterReads : List ReadCall → Type 0) (seeding : Seeding) (a b : Outside)
    : Type 0 where
  pub read : ReadSome input_limits AfterReads a b
  pub quiet : b.source.faults ≡ a.source.faults
  pub seeds : (b.seeds ≡ a.seeds) ⊎ ((seed : List ℕ) × IsSeedOf seeding a.seeds b.seeds seed)
  pub unwritten : b.sink ≡ a.sink

-- what the status means for a run that reads a script; it is never `Usage` or `Refused`
abbrev pub Ends : (List ℕ → Type 0) → (List ReadCall → Type 0) → Seeding → Outside → Outside → Status → Type 0
Ends IsText AfterReads seeding a b Done = EndsDone IsText a.sink b.sink
Ends IsText AfterReads seeding a b Usage = ⊥
Ends IsText AfterReads seeding a b (Refused place) = ⊥
Ends IsText AfterReads seeding a b (BadLine line) = EndsBadLine input_limits parsed_script AfterReads line a b
Ends IsText AfterReads seeding a b ReadFault = EndsReadFault input_limits AfterReads a b
Ends IsText AfterReads seeding a b WriteFault = EndsWriteFault IsText a.sink b.sink
Ends IsText AfterReads seeding a b SeedFault = EndsSeedFault AfterReads seeding a b
Ends IsText AfterReads seeding a b TooLong = EndsTooLong input_limits AfterReads a b
Ends IsText AfterReads seeding a b NoMemory = EndsNoMemory AfterReads seeding a b
