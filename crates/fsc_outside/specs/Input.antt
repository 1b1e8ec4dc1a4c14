-- What reading a source to its end does, within limits.
use Rattle.std.specs.Prelude.{ℕ, ◌≡◌, ◌<◌, ◌≤◌, ◌⊎◌, List, [], ◌∷◌, length, Result, Ok, Err}
use Rattle.std.specs.Io.KnownBytes.{Consumes}
use Rattle.text_words.specs.Lines.{line_count}
use Rattle.fsc_outside.specs.Reading.{AfterReading, ReadPart, ReadInVain, max_read_bytes}
use Rattle.fsc_outside.specs.Reads.{ReadCall}
use Rattle.fsc_outside.specs.Reads.ReadCall.{Gave}
use Rattle.fsc_outside.specs.States.{SourceState}
use Rattle.fsc_outside.specs.declared.input.InputLimits.{InputLimits}
use Rattle.fsc_outside.specs.declared.input.InputFault.{InputFault}
use Rattle.fsc_outside.specs.declared.input.InputFault.TheVariants.{ReadFault, TooLong, NoMemory}
use Rattle.fsc_outside.specs.WholeTexts.{ReadToEnd, ReadWhole}

-- a source gave exactly one byte beyond the limit, and was asked for no more
pub record ReadOneByteMore (limits : InputLimits) (AfterReads : List ReadCall → Type 0)
    (old new : SourceState)
    (bytes : List ℕ) : Type 0 where
  pub given : Consumes old.left new.left bytes
  pub size : length bytes ≡ max_read_bytes limits
  pub calls : AfterReading limits AfterReads bytes []

-- a source gave a whole text within the limit of bytes, but with too many lines; the last call reported
-- its end
pub record ReadTooManyLines (limits : InputLimits) (AfterReads : List ReadCall → Type 0)
    (old new : SourceState)
    (bytes : List ℕ) : Type 0 where
  pub gave : ReadToEnd old new bytes
  pub size : length bytes ≤ limits.bytes
  pub lines : limits.lines < line_count bytes
  pub calls : AfterReading limits AfterReads bytes (Gave [] ∷ [])

-- a source gave a text that is too long; how much of it was read
abbrev pub ReadIsTooLong : InputLimits → (List ReadCall → Type 0) → SourceState → SourceState → List ℕ
    → Type 0
ReadIsTooLong limits AfterReads old new bytes =
    ReadOneByteMore limits AfterReads old new bytes ⊎ ReadTooManyLines limits AfterReads old new bytes

-- a text beyond a limit was begun
pub record ReadTooMuch (limits : InputLimits) (AfterReads : List ReadCall → Type 0) (old new : SourceState)
    : Type 0 where
  pub bytes : List ℕ
  pub gave : ReadIsTooLong limits AfterReads old new bytes
  pub quiet : new.faults ≡ old.faults

-- how reading to the end ends
abbrev pub EndsReading : InputLimits → (List ReadCall → Type 0) → SourceState → SourceState
    → Result (List ℕ) InputFault → Type 0
EndsReading limits AfterReads old new (Ok text) = ReadWhole limits AfterReads old new text
EndsReading limits AfterReads old new (Err ReadFault) = ReadPart limits AfterReads old new
EndsReading limits AfterReads old new (Err TooLong) = ReadTooMuch limits AfterReads old new
EndsReading limits AfterReads old new (Err NoMemory) = ReadInVain limits AfterReads old new

-- a text with too many lines is refused, and any other is returned
abbrev pub LimitsLines : ℕ → List ℕ → Result (List ℕ) InputFault → Type 0
LimitsLines most text (Ok same) = (same ≡ text) × (line_count text ≤ most)
LimitsLines most text (Err TooLong) = most < line_count text
LimitsLines most text (Err ReadFault) = ⊥
LimitsLines most text (Err NoMemory) = ⊥
