-- The verdict on a text that may be a log.
use Rattle.std.specs.Prelude.{◌≡◌, ◌≢◌, ◌<◌, ◌≤◌, ◌^◌, ℕ, Bool, List, length, All}
use Rattle.mount_model.specs.History.{History}
use Rattle.mount_model.specs.Lawful.{IsLawful, KeysAgree}
use Rattle.script_lang.specs.declared.commands.Section.{Section}
use Rattle.reply_text.specs.Ranges.{EntryIsInRange}
use Rattle.reply_text.specs.Log.{log_text}
use Rattle.fsc_session.specs.ScriptRun.{IsRunOf}
use Rattle.fsc_session.specs.Meaning.{Follows, whole_log}
use Rattle.log_check.specs.declared.check.Verdict.{Verdict}
use Rattle.log_check.specs.declared.check.Verdict.TheVariants.{Certified, Refused}
use Rattle.log_check.specs.Certificate.{HasMemory, IsPossible, BeginsWith}

-- The text is the log, with its notes, of a history in which each caller's entries are a run of its
-- section. The history has fewer entries than there are places, is lawful, and a possible one if the raw
-- keys that were added agree. If it is strict, nothing in it is out of memory.
pub record IsCertified (strict : Bool) (seed : List ℕ) (script : List Section) (text : List ℕ) : Type 0 where
  pub history : History
  pub runs : IsRunOf seed script history
  pub short : length history < 2 ^ 64
  pub log : text ≡ whole_log seed script history
  pub lawful : IsLawful history
  pub in_range : All EntryIsInRange history
  pub memory : HasMemory strict history
  pub possible : KeysAgree history → IsPossible strict seed script history

-- The text begins with that many entries of a history, which is lawful, and a possible one if the raw keys
-- that were added agree. No possible history has more entries with which the text begins, and the text is
-- the log of no possible run.
pub record IsRefusedAt (strict : Bool) (seed : List ℕ) (script : List Section) (text : List ℕ) (place : ℕ)
    : Type 0 where
  pub history : History
  pub follows : Follows seed script history
  pub begins : BeginsWith text (log_text history)
  pub long : length history ≡ place
  pub lawful : IsLawful history
  pub in_range : All EntryIsInRange history
  pub memory : HasMemory strict history
  pub possible : KeysAgree history → IsPossible strict seed script history
  pub most : (other : History) → IsPossible strict seed script other → BeginsWith text (log_text other)
      → length other ≤ place
  pub no_log : (other : History) → IsPossible strict seed script other → IsRunOf seed script other
      → text ≢ whole_log seed script other

abbrev pub IsVerdictOf : Bool → List ℕ → List Section → List ℕ → Verdict → Type 0
IsVerdictOf strict seed script text Certified = IsCertified strict seed script text
IsVerdictOf strict seed script text (Refused place) = IsRefusedAt strict seed script text place
