-- The theorem of the tool: what holds of a run for any arguments.
use Rattle.std.specs.Prelude.{◌≡◌, ◌↔◌, ℕ, true, false, List, [], Option, Some, None}
use Rattle.mount_model.specs.History.{History}
use Rattle.fsc_outside.specs.Reads.{ReadCall}
use Rattle.fsc_tool.specs.declared.status.Status.{Status}
use Rattle.fsc_tool.specs.declared.status.Status.TheVariants.{Usage}
use Rattle.fsc_tool.specs.declared.form.Seeding.TheVariants.{Given}
use Rattle.fsc_tool.specs.declared.form.Way.TheVariants.{InTurn, InThreads}
use Rattle.fsc_tool.specs.declared.form.ToolForm.{ToolForm}
use Rattle.fsc_tool.specs.declared.form.ToolForm.TheVariants.{Replay, Generate, Summarise, Dump, Inspect, Check}
use Rattle.fsc_tool.specs.declared.form.ToolForm.TheVariants.{CheckStrictly, ReplayLinked}
use Rattle.fsc_tool.specs.Checking.{IsChecking}
use Rattle.fsc_tool.specs.Forms.{form_of, without_threads}
use Rattle.fsc_tool.specs.Gen.{IsGenRun, IsScriptText, SummaryOfRun}
use Rattle.fsc_tool.specs.ImageOfRun.{IsImageOfRun}
use Rattle.fsc_tool.specs.Inspection.{IsInspection}
use Rattle.fsc_tool.specs.LinkedLog.{IsLinkedLog, IsLinkedLogOfThreads}
use Rattle.fsc_tool.specs.LogOfRun.{IsLogOfRun}
use Rattle.fsc_tool.specs.Outside.{Outside}
use Rattle.fsc_tool.specs.Replay.{IsReplay}
use Rattle.script_runs.specs.Runs.{IsLawfulRun, IsSerialRun}

-- a run in this form: an equation a form. Without one nothing is called. `lawful` holds of the histories
-- that mount 0 allows, `other` of those that mount 1 allows, `AfterReads` of the source's calls in between
abbrev pub IsRunIn : (History → Type 0) → (History → Type 0) → (List ReadCall → Type 0) → Option ToolForm
    → Outside → Outside → Status → Type 0
IsRunIn lawful other AfterReads None a b status = (status ≡ Usage) × (b ≡ a) × AfterReads []
IsRunIn lawful other AfterReads (Some (Replay InTurn seeding)) a b status =
    IsReplay (IsLogOfRun (IsSerialRun lawful)) AfterReads seeding a b status
IsRunIn lawful other AfterReads (Some (Replay InThreads seeding)) a b status =
    IsReplay (IsLogOfRun (IsLawfulRun lawful)) AfterReads seeding a b status
IsRunIn lawful other AfterReads (Some (Generate number)) a b status =
    IsGenRun (IsScriptText number) a b status × AfterReads []
IsRunIn lawful other AfterReads (Some (Summarise number)) a b status =
    IsGenRun (SummaryOfRun lawful number) a b status × AfterReads []
IsRunIn lawful other AfterReads (Some (Dump seed)) a b status
    = IsReplay IsImageOfRun AfterReads (Given seed) a b status
IsRunIn lawful other AfterReads (Some (Inspect raw)) a b status = IsInspection raw AfterReads a b status
IsRunIn lawful other AfterReads (Some (Check seed)) a b status = IsChecking false seed AfterReads a b status
IsRunIn lawful other AfterReads (Some (CheckStrictly seed)) a b status
    = IsChecking true seed AfterReads a b status
IsRunIn lawful other AfterReads (Some (ReplayLinked InTurn seed)) a b status =
    IsReplay (IsLinkedLog lawful other) AfterReads (Given seed) a b status
IsRunIn lawful other AfterReads (Some (ReplayLinked InThreads seed)) a b status =
    IsReplay (IsLinkedLogOfThreads lawful other) AfterReads (Given seed) a b status

-- a run in the form of the arguments; the status is `Usage` exactly when they are none
pub record IsToolRun (lawful other : History → Type 0) (AfterReads : List ReadCall → Type 0)
    (words : List (List ℕ)) (a b : Outside) (status : Status) : Type 0 where
  pub run : IsRunIn lawful other AfterReads (form_of words) a b status
  pub usage : (status ≡ Usage) ↔ (form_of words ≡ None)

-- the same for a tool that starts no thread
pub record IsSerialToolRun (lawful other : History → Type 0) (AfterReads : List ReadCall → Type 0)
    (words : List (List ℕ)) (a b : Outside) (status : Status) : Type 0 where
  pub run : IsRunIn lawful other AfterReads (without_threads (form_of words)) a b status
  pub usage : (status ≡ Usage) ↔ (without_threads (form_of words) ≡ None)
