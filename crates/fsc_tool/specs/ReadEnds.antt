-- How a run ends by what the source gave, if nothing is written, and what was read if there is no memory.
-- `AfterReads` holds of the source's calls in between.
use Rattle.std.specs.Prelude.{◌≡◌, ◌⊎◌, ℕ, List, Result, Err}
use Rattle.fsc_outside.specs.declared.input.InputLimits.{InputLimits}
use Rattle.fsc_outside.specs.Input.{ReadTooMuch}
use Rattle.fsc_outside.specs.WholeTexts.{ReadWhole}
use Rattle.fsc_outside.specs.Reading.{ReadInVain, ReadPart}
use Rattle.fsc_outside.specs.Reads.{ReadCall}
use Rattle.fsc_tool.specs.Outside.{Outside}

-- nothing was written, and no seed asked for
pub record EndsEarly (a b : Outside) : Type 0 where
  pub unwritten : b.sink ≡ a.sink
  pub unasked : b.seeds ≡ a.seeds

-- a call of the source failed, and it was the last
pub record EndsReadFault (limits : InputLimits) (AfterReads : List ReadCall → Type 0) (a b : Outside)
    : Type 0 where
  pub early : EndsEarly a b
  pub part : ReadPart limits AfterReads a.source b.source

-- the source gave more than the limits allow
pub record EndsTooLong (limits : InputLimits) (AfterReads : List ReadCall → Type 0) (a b : Outside)
    : Type 0 where
  pub early : EndsEarly a b
  pub much : ReadTooMuch limits AfterReads a.source b.source

-- the line is the one at fault if the input is read by `read_as`
pub record EndsBadLine {A : Type 0} (limits : InputLimits) (read_as : List ℕ → Result A ℕ)
    (AfterReads : List ReadCall → Type 0) (line : ℕ) (a b : Outside) : Type 0 where
  pub early : EndsEarly a b
  pub input : List ℕ
  pub read : ReadWhole limits AfterReads a.source b.source input
  pub bad : read_as input ≡ Err line

-- a text was read whole, or begun
abbrev pub ReadSome : InputLimits → (List ReadCall → Type 0) → Outside → Outside → Type 0
ReadSome limits AfterReads a b = ReadInVain limits AfterReads a.source b.source
    ⊎ ((input : List ℕ) × ReadWhole limits AfterReads a.source b.source input)
