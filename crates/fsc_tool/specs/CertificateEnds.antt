-- How a run ends that reads a script and a log in one input: what it read, or how the source failed it.
use Rattle.std.specs.Prelude.{◌≡◌, ◌⊎◌, ◌+◌, ℕ, List, Ok, Err}
use Rattle.fsc_outside.specs.declared.input.InputLimits.{InputLimits}
use Rattle.fsc_outside.specs.Input.{ReadOneByteMore}
use Rattle.fsc_outside.specs.WholeTexts.{IsWithin, ReadWhole}
use Rattle.fsc_outside.specs.Reads.{ReadCall}
use Rattle.script_lang.specs.declared.commands.Section.{Section}
use Rattle.fsc_tool.specs.declared.limits.TheConstants.{MAX_CERTIFICATE_BYTES}
use Rattle.fsc_tool.specs.ReadEnds.{ReadSome}
use Rattle.fsc_tool.specs.Limits.{input_limits, IsLong}
use Rattle.fsc_tool.specs.Outside.{Outside}
use Rattle.fsc_tool.specs.Splitting.{read_certificate, script_part}

-- that many bytes; no text of that length has more lines than these
abbrev pub certificate_limits : InputLimits
certificate_limits = record { bytes = MAX_CERTIFICATE_BYTES; lines = MAX_CERTIFICATE_BYTES + 1 }

-- an input has a script within its limits and a log, for which `IsSo` holds
pub record IsChecked (IsSo : List Section → List ℕ → Type 0) (input : List ℕ) : Type 0 where
  pub within : IsWithin input_limits (script_part input)
  pub script : List Section
  pub log : List ℕ
  pub parts : read_certificate input ≡ Ok (script, log)
  pub is_so : IsSo script log

-- a line of an input is at fault, and the script's part is within its limits
pub record IsAtFault (line : ℕ) (input : List ℕ) : Type 0 where
  pub within : IsWithin input_limits (script_part input)
  pub bad : read_certificate input ≡ Err line

-- the source gave an input for which `IsSo` holds
pub record EndsRead (IsSo : List ℕ → Type 0) (AfterReads : List ReadCall → Type 0) (a b : Outside)
    : Type 0 where
  pub input : List ℕ
  pub read : ReadWhole certificate_limits AfterReads a.source b.source input
  pub is_so : IsSo input

-- the source gave one byte more than the limit, or an input whose script's part is beyond a limit
pub record ReadTooLong (AfterReads : List ReadCall → Type 0) (a b : Outside) : Type 0 where
  pub bytes : List ℕ
  pub gave : ReadOneByteMore certificate_limits AfterReads a.source b.source bytes
  pub quiet : b.source.faults ≡ a.source.faults

abbrev pub EndsCertificateTooLong : (List ReadCall → Type 0) → Outside → Outside → Type 0
EndsCertificateTooLong AfterReads a b =
    ReadTooLong AfterReads a b ⊎ EndsRead (λ input. IsLong (script_part input)) AfterReads a b

-- there was no memory; nothing failed
pub record EndsCertificateNoMemory (AfterReads : List ReadCall → Type 0) (a b : Outside) : Type 0 where
  pub read : ReadSome certificate_limits AfterReads a b
  pub quiet : b.source.faults ≡ a.source.faults
