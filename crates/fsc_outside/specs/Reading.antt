-- The calls of a reading within limits, and how one ends before its text does.
use Rattle.std.specs.Prelude.{ℕ, ◌≡◌, ◌+◌, ◌≤◌, List, [], ◌∷◌, ◌++◌, length, All}
use Rattle.std.specs.Io.KnownBytes.{Consumes}
use Rattle.fsc_outside.specs.Causes.{Rose}
use Rattle.fsc_outside.specs.Reads.{ReadCall, ReturnsBytes, bytes_of_calls}
use Rattle.fsc_outside.specs.Reads.ReadCall.{Faulted}
use Rattle.fsc_outside.specs.States.{SourceState}
use Rattle.fsc_outside.specs.declared.input.InputLimits.{InputLimits}

-- the maximal number of bytes that are read, and of calls that are made for them: one more than the limit
abbrev pub max_read_bytes : InputLimits → ℕ
max_read_bytes limits = limits.bytes + 1

-- the source reached its state by calls that each gave some of these bytes, followed by `last`; together
-- they are at most `max_read_bytes`. `AfterReads calls` is the fact that it reached its state by these calls
pub record AfterReading (limits : InputLimits) (AfterReads : List ReadCall → Type 0)
    (bytes : List ℕ) (last : List ReadCall) : Type 0 where
  pub calls : List ReadCall
  pub reached_by_call : AfterReads (calls ++ last)
  pub each : All ReturnsBytes calls
  pub given : bytes_of_calls calls ≡ bytes
  pub few : length (calls ++ last) ≤ max_read_bytes limits

-- these bytes of a text were read, and then exactly one call failed, which was the last
pub record ReadPart (limits : InputLimits) (AfterReads : List ReadCall → Type 0) (old new : SourceState)
    : Type 0 where
  pub bytes : List ℕ
  pub given : Consumes old.left new.left bytes
  pub size : length bytes ≤ limits.bytes
  pub cause : Rose old.faults new.faults
  pub calls : AfterReading limits AfterReads bytes (Faulted ∷ [])

-- these bytes of a text were read, and then there was no memory for them
pub record ReadInVain (limits : InputLimits) (AfterReads : List ReadCall → Type 0) (old new : SourceState)
    : Type 0 where
  pub bytes : List ℕ
  pub given : Consumes old.left new.left bytes
  pub size : length bytes ≤ max_read_bytes limits
  pub quiet : new.faults ≡ old.faults
  pub calls : AfterReading limits AfterReads bytes []
