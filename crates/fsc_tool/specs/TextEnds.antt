-- How a run ends that writes a text, by what the sink got of it. `IsText` holds of that text.
use Rattle.std.specs.Prelude.{◌≡◌, ℕ, List}
use Rattle.fsc_outside.specs.States.{SinkState}
use Rattle.fsc_outside.specs.Whole.{GotWhole, GotPart}
use Rattle.fsc_tool.specs.declared.status.Status.{Status}
use Rattle.fsc_tool.specs.declared.status.Status.TheVariants.{Done, WriteFault, NoMemory}

-- the text was written whole
pub record EndsDone (IsText : List ℕ → Type 0) (old new : SinkState) : Type 0 where
  pub text : List ℕ
  pub right : IsText text
  pub written : GotWhole old new text

-- the sink failed before the text's end
pub record EndsWriteFault (IsText : List ℕ → Type 0) (old new : SinkState) : Type 0 where
  pub text : List ℕ
  pub right : IsText text
  pub written : GotPart old new text

-- what the status means for a run that reads nothing
abbrev pub EndsUnread : (List ℕ → Type 0) → SinkState → SinkState → Status → Type 0
EndsUnread IsText old new Done = EndsDone IsText old new
EndsUnread IsText old new WriteFault = EndsWriteFault IsText old new
EndsUnread IsText old new NoMemory = new ≡ old
EndsUnread IsText old new other = ⊥
