-- What the program prints checks: laws of a log after its script, as `check` reads them.
use Rattle.std.specs.Prelude.{◌≡◌, ℕ, Bool, List, Ok}
use Rattle.mount_model.specs.Lawful.{IsLawful, KeysAgree}
use Rattle.script_lang.specs.declared.commands.Section.{Section}
use Rattle.script_lang.specs.Script.{parsed_script}
use Rattle.fsc_outside.specs.WholeTexts.{IsWithin}
use Rattle.log_check.specs.Certificate.{HasMemory}
use Rattle.fsc_tool.specs.declared.status.Status.{Status}
use Rattle.fsc_tool.specs.declared.status.Status.TheVariants.{Done, Refused}
use Rattle.fsc_tool.specs.CheckStatus.{StatusOfInput}
use Rattle.fsc_tool.specs.Limits.{input_limits}
use Rattle.fsc_tool.specs.LogOfRun.{IsLogOfRun}
use Rattle.fsc_tool.specs.Splitting.{read_certificate, certificate_text}
use Rattle.fsc_tool.specs.Replay.{IsOrNoMemory}
use Rattle.script_runs.specs.Runs.{IsLawfulRun}

-- a text that is a script, the separating line, and any text after it are read as that script and that text
abbrev pub LogsAreSplitFromScripts : Type 0
LogsAreSplitFromScripts =
    (input log : List ℕ) (script : List Section) → parsed_script input ≡ Ok script
    → read_certificate (certificate_text input log) ≡ Ok (script, log)

-- the log of a run of the script, in which no two different raw keys that were added share an identifier
pub record IsPrinted (input seed log : List ℕ) : Type 0 where
  pub script : List Section
  pub spelled : parsed_script input ≡ Ok script
  pub printed : IsLogOfRun (IsLawfulRun IsLawful) seed script log
  pub agree : KeysAgree printed.history

-- such a log after its script is never refused; nor is it strictly, if nothing in the run was out of memory
abbrev pub PrintedLogsAreNotRefused : Type 0
PrintedLogsAreNotRefused =
    (strict : Bool) (input seed log : List ℕ) (place : ℕ) (run : IsPrinted input seed log)
    → HasMemory strict run.printed.history
    → ¬ StatusOfInput strict seed (certificate_text input log) (Refused place)

-- and if the script is within its limits, the status of the whole input is that the log is certified, or
-- that there was no memory
abbrev pub PrintedLogsAreCertified : Type 0
PrintedLogsAreCertified =
    (strict : Bool) (input seed log : List ℕ) (status : Status) (run : IsPrinted input seed log)
    → HasMemory strict run.printed.history → IsWithin input_limits input
    → StatusOfInput strict seed (certificate_text input log) status → IsOrNoMemory Done status
