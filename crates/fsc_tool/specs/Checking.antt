-- A run that checks a log: what it finds, and how it ends. It writes nothing, and asks for no seed.
use Rattle.std.specs.Prelude.{◌≡◌, ◌⊎◌, ◌<◌, ◌≤◌, ℕ, Bool, List, length, Ok, Err}
use Rattle.fsc_outside.specs.WholeTexts.{IsWithin}
use Rattle.fsc_outside.specs.Reads.{ReadCall}
use Rattle.script_lang.specs.declared.commands.Section.{Section}
use Rattle.log_check.specs.Verdicts.{IsCertified, IsRefusedAt}
use Rattle.fsc_tool.specs.declared.limits.TheConstants.{MAX_CERTIFICATE_BYTES}
use Rattle.fsc_tool.specs.declared.status.Status.{Status}
use Rattle.fsc_tool.specs.declared.status.Status.TheVariants.{Done, BadLine, ReadFault, TooLong, Refused}
use Rattle.fsc_tool.specs.declared.status.Status.TheVariants.{NoMemory}
use Rattle.fsc_tool.specs.ReadEnds.{EndsEarly, EndsReadFault}
use Rattle.fsc_tool.specs.Limits.{input_limits, IsLong}
use Rattle.fsc_tool.specs.Outside.{Outside}
use Rattle.fsc_tool.specs.Splitting.{read_certificate, script_part}
use Rattle.fsc_tool.specs.Replay.{IsOrNoMemory, GivenInput}
use Rattle.fsc_tool.specs.CertificateEnds.{certificate_limits, IsChecked, IsAtFault, EndsRead}
use Rattle.fsc_tool.specs.CertificateEnds.{EndsCertificateTooLong, EndsCertificateNoMemory}
use Rattle.fsc_tool.specs.CheckStatus.{IsVerdict}

-- what the status means; no other status is possible
abbrev pub EndsChecking : Bool → List ℕ → (List ReadCall → Type 0) → Outside → Outside → Status → Type 0
EndsChecking strict seed AfterReads a b Done = EndsRead (IsChecked (IsCertified strict seed)) AfterReads a b
EndsChecking strict seed AfterReads a b (Refused place) =
    EndsRead (IsChecked (λ script log. IsRefusedAt strict seed script log place)) AfterReads a b
EndsChecking strict seed AfterReads a b (BadLine line) = EndsRead (IsAtFault line) AfterReads a b
EndsChecking strict seed AfterReads a b ReadFault = EndsReadFault certificate_limits AfterReads a b
EndsChecking strict seed AfterReads a b TooLong = EndsCertificateTooLong AfterReads a b
EndsChecking strict seed AfterReads a b NoMemory = EndsCertificateNoMemory AfterReads a b
EndsChecking strict seed AfterReads a b other = ⊥

-- a run that checks a log against runs with the seed, strictly or not; `AfterReads` holds of the source's
-- calls in between
pub record IsChecking (strict : Bool) (seed : List ℕ) (AfterReads : List ReadCall → Type 0) (a b : Outside)
    (status : Status) : Type 0 where
  -- what the status means, with its cause and what was read
  pub ends : EndsChecking strict seed AfterReads a b status
  -- nothing is written, and no seed is asked for
  pub silent : EndsEarly a b
  -- the other statuses, for a source with known bytes
  pub too_long : (input : List ℕ) → GivenInput a b input
      → (MAX_CERTIFICATE_BYTES < length input) ⊎ IsLong (script_part input) → IsOrNoMemory TooLong status
  pub bad_line : (input : List ℕ) (line : ℕ) → GivenInput a b input → length input ≤ MAX_CERTIFICATE_BYTES
      → IsWithin input_limits (script_part input) → read_certificate input ≡ Err line
      → IsOrNoMemory (BadLine line) status
  pub complete : (input : List ℕ) (parts : List Section × List ℕ) → GivenInput a b input
      → length input ≤ MAX_CERTIFICATE_BYTES → IsWithin input_limits (script_part input)
      → read_certificate input ≡ Ok parts → IsVerdict status ⊎ (status ≡ NoMemory)
