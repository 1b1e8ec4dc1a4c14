-- Laws of histories that go on.
use Rattle.std.specs.Prelude.{◌≡◌, ◌⊎◌, ℕ, Bool, IsTrue, List, [], ◌∷◌, ◌++◌, slice_get, Some, All}
use Rattle.call_history.specs.Entries.{entry}
use Rattle.call_history.specs.Placed.{entries_of}
use Rattle.mount_model.specs.declared.call.Call.{Call}
use Rattle.mount_model.specs.declared.reply.Reply.{Reply}
use Rattle.mount_model.specs.declared.reply.Reply.TheVariants.{Refused}
use Rattle.mount_model.specs.declared.reply.Refusal.TheVariants.{NoMemory}
use Rattle.mount_model.specs.History.{History, IsLegal, entries_by}
use Rattle.mount_model.specs.Lawful.{IsLawful, KeysAgree}
use Rattle.mount_model.specs.Step.{takes_memory}
use Rattle.script_lang.specs.declared.commands.Section.{Section}
use Rattle.reply_text.specs.Ranges.{EntryIsInRange}
use Rattle.fsc_session.specs.Session.{next_call}
use Rattle.fsc_session.specs.ScriptRun.{IsRunOf}
use Rattle.fsc_session.specs.Meaning.{Follows, whole_log}
use Rattle.log_check.specs.Certificate.{HasMemory}
use Rattle.log_check.specs.Verdicts.{IsRefusedAt}

-- a history that follows a script continues by a caller's next call, whatever the reply
abbrev pub NextCallsFollow : Type 0
NextCallsFollow =
    (seed : List ℕ) (script : List Section) (history : History) (caller : ℕ) (section : Section) (call : Call)
    (reply : Reply) → Follows seed script history → slice_get script caller ≡ Some section
    → next_call seed caller section (entries_of (entries_by caller history)) ≡ Some (caller, call)
    → Follows seed script (history ++ entry caller call reply ∷ [])

-- the replies that the one-thread mount has to one call after one history are the same, except out of
-- memory, which only some calls may have
abbrev pub MountsHaveOneReply : Type 0
MountsHaveOneReply =
    (history : History) (caller : ℕ) (call : Call) (a b : Reply)
    → IsLegal (history ++ entry caller call a ∷ []) → IsLegal (history ++ entry caller call b ∷ [])
    → (a ≡ b) ⊎ (IsTrue (takes_memory call.op) × ((a ≡ Refused NoMemory) ⊎ (b ≡ Refused NoMemory)))

-- the log of a lawful run, with its notes, is refused at no place, if its entries are in range and the raw
-- keys that were added agree. So a program's log of its own run is not refused, nor by a strict check if
-- nothing in the run was out of memory
abbrev pub LogsOfRunsAreNotRefused : Type 0
LogsOfRunsAreNotRefused =
    (strict : Bool) (seed : List ℕ) (script : List Section) (history : History) (place : ℕ)
    → IsRunOf seed script history → IsLawful history → All EntryIsInRange history → KeysAgree history
    → HasMemory strict history → ¬ IsRefusedAt strict seed script (whole_log seed script history) place
