-- A text that was read whole, within the limits.
use Rattle.std.specs.Prelude.{ℕ, ◌≡◌, ◌≤◌, List, [], ◌∷◌, length}
use Rattle.std.specs.Io.KnownBytes.{Consumes, IsAtEnd}
use Rattle.text_words.specs.Lines.{line_count}
use Rattle.fsc_outside.specs.Reading.{AfterReading}
use Rattle.fsc_outside.specs.Reads.{ReadCall}
use Rattle.fsc_outside.specs.Reads.ReadCall.{Gave}
use Rattle.fsc_outside.specs.States.{SourceState}
use Rattle.fsc_outside.specs.declared.input.InputLimits.{InputLimits}

-- a source gave these bytes, and ended
pub record ReadToEnd (old new : SourceState) (bytes : List ℕ) : Type 0 where
  pub given : Consumes old.left new.left bytes
  pub ended : IsAtEnd new.left

-- a text within the limits
pub record IsWithin (limits : InputLimits) (text : List ℕ) : Type 0 where
  pub bytes : length text ≤ limits.bytes
  pub lines : line_count text ≤ limits.lines

-- the text was read whole; the last call reported its end
pub record ReadWhole (limits : InputLimits) (AfterReads : List ReadCall → Type 0) (old new : SourceState)
    (text : List ℕ) : Type 0 where
  pub gave : ReadToEnd old new text
  pub within : IsWithin limits text
  pub quiet : new.faults ≡ old.faults
  pub calls : AfterReading limits AfterReads text (Gave [] ∷ [])
