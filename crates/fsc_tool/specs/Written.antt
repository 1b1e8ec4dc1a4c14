-- How a run ends after its calls: by what becomes of its log.
use Rattle.std.specs.Prelude.{◌≡◌, ℕ, List}
use Rattle.fsc_outside.specs.States.{SinkState}
use Rattle.fsc_outside.specs.Whole.{GotWhole, GotPart}
use Rattle.fsc_tool.specs.declared.status.Status.{Status}
use Rattle.fsc_tool.specs.declared.status.Status.TheVariants.{Done, WriteFault, NoMemory}

-- the log was written whole, the sink failed before its end, or there was no memory and nothing was written
abbrev pub EndsLog : List ℕ → SinkState → SinkState → Status → Type 0
EndsLog log old new Done = GotWhole old new log
EndsLog log old new WriteFault = GotPart old new log
EndsLog log old new NoMemory = new ≡ old
EndsLog log old new other = ⊥
