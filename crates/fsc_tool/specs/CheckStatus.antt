-- What the status of a run that checks a log means for its input, and for the log.
use Rattle.std.specs.Prelude.{◌≡◌, ◌⊎◌, ⊤, ℕ, Bool, List}
use Rattle.script_lang.specs.declared.commands.Section.{Section}
use Rattle.log_check.specs.Verdicts.{IsCertified, IsRefusedAt}
use Rattle.fsc_tool.specs.declared.status.Status.{Status}
use Rattle.fsc_tool.specs.declared.status.Status.TheVariants.{Done, BadLine, TooLong, Refused, NoMemory}
use Rattle.fsc_tool.specs.Limits.{IsLong}
use Rattle.fsc_tool.specs.Splitting.{script_part}
use Rattle.fsc_tool.specs.CertificateEnds.{IsChecked, IsAtFault}

-- what the status means for an input that was read whole; if `strict`, over histories in which nothing is
-- out of memory
abbrev pub StatusOfInput : Bool → List ℕ → List ℕ → Status → Type 0
StatusOfInput strict seed input Done = IsChecked (IsCertified strict seed) input
StatusOfInput strict seed input (Refused place)
    = IsChecked (λ script log. IsRefusedAt strict seed script log place) input
StatusOfInput strict seed input (BadLine line) = IsAtFault line input
StatusOfInput strict seed input TooLong = IsLong (script_part input)
StatusOfInput strict seed input NoMemory = ⊤
StatusOfInput strict seed input other = ⊥

-- what the status means for a log with a script that was read
abbrev pub StatusOfLog : Bool → List ℕ → List Section → List ℕ → Status → Type 0
StatusOfLog strict seed script log Done = IsCertified strict seed script log
StatusOfLog strict seed script log (Refused place) = IsRefusedAt strict seed script log place
StatusOfLog strict seed script log NoMemory = ⊤
StatusOfLog strict seed script log other = ⊥

-- the log was certified, or refused at a place
abbrev pub IsVerdict : Status → Type 0
IsVerdict status = (status ≡ Done) ⊎ ((place : ℕ) × (status ≡ Refused place))
