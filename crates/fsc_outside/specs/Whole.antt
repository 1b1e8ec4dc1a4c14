-- What writing a whole text does to a sink.
use Rattle.std.specs.Prelude.{ℕ, ◌≡◌, ◌<◌, List, length, take, Result, Ok, Err}
use Rattle.std.specs.Io.KnownBytes.{Appends}
use Rattle.fsc_outside.specs.Causes.{Rose}
use Rattle.fsc_outside.specs.States.{SinkState}
use Rattle.fsc_outside.specs.declared.Failed.{Failed}

-- a sink got the whole text
pub record GotWhole (old new : SinkState) (text : List ℕ) : Type 0 where
  pub got : Appends old.got new.got text
  pub quiet : new.faults ≡ old.faults

-- a sink got the first `count` bytes of the text, short of its end, and failed: so an empty text can't
-- fail
pub record GotPart (old new : SinkState) (text : List ℕ) : Type 0 where
  pub count : ℕ
  pub short : count < length text
  pub got : Appends old.got new.got (take count text)
  pub cause : Rose old.faults new.faults

-- how writing a whole text ends
abbrev pub EndsWriting : SinkState → SinkState → List ℕ → Result (Unit {0}) Failed → Type 0
EndsWriting old new text (Ok _) = GotWhole old new text
EndsWriting old new text (Err _) = GotPart old new text
