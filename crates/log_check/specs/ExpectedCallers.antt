-- What comes after entries that were read from a text.
use Rattle.std.specs.Prelude.{◌≡◌, ◌≢◌, ℕ, false, List, [], ◌∷◌, ◌++◌, slice_get, Option, Some, None}
use Rattle.call_history.specs.Entries.{entry}
use Rattle.mount_model.specs.declared.call.Call.{Call}
use Rattle.mount_model.specs.declared.reply.Reply.{Reply}
use Rattle.mount_model.specs.declared.reply.Reply.TheVariants.{Refused}
use Rattle.mount_model.specs.declared.reply.Refusal.TheVariants.{NoMemory}
use Rattle.mount_model.specs.Fits.{Fits}
use Rattle.mount_model.specs.History.{History}
use Rattle.script_lang.specs.declared.commands.Section.{Section}
use Rattle.reply_text.specs.Log.{entry_text}
use Rattle.reply_text.specs.Ranges.{EntryIsInRange}
use Rattle.next_calls.specs.Callers.{CallerView}
use Rattle.log_check.specs.declared.expected.Continuation.{Continuation}
use Rattle.log_check.specs.Expected.{IsExpected}
use Rattle.log_check.specs.Reading.{CallersFollow}
use Rattle.log_check.specs.Stops.{IsRead}

-- the call that the caller of this number waits for, which a mount may be asked; or that it waits for none
abbrev pub IsCallAt : List CallerView → ℕ → Option Call → Type 0
IsCallAt callers number None = (caller : CallerView) → slice_get callers number ≡ Some caller
    → caller.waiting ≡ None
IsCallAt callers number (Some call) =
    (caller : CallerView) × (slice_get callers number ≡ Some caller) × (caller.waiting ≡ Some call)
    × Fits call

-- a caller that waits for a reply, by its number, with the call; or that none waits
abbrev pub IsWaiting : List CallerView → Option (ℕ × Call) → Type 0
IsWaiting callers None = (number : ℕ) → IsCallAt callers number None
IsWaiting callers (Some found) = IsCallAt callers found.0 (Some found.1)

-- the line of the caller's call with a reply of the mount, which isn't out of memory
pub record IsAnsweredLine {M : Type 0} (reached_by : History → M → Type 0) (old new : M) (place caller : ℕ)
    (call : Call)
    (line : List ℕ) : Type 0 where
  pub reply : Reply
  pub text_is : line ≡ entry_text place (entry caller call reply)
  pub in_range : EntryIsInRange (entry caller call reply)
  pub memory : reply ≢ Refused NoMemory
  pub reached_of_reply : (history : History) → reached_by history old
      → reached_by (history ++ entry caller call reply ∷ []) new

-- it comes after any entries that were read from a text up to here, after which the callers are
abbrev pub IsExpectedHere : {M : Type 0} → (History → M → Type 0) → List CallerView → ℕ → List ℕ → M
    → Continuation → Type 0
IsExpectedHere reached_by callers place rest mount next =
    (seed : List ℕ) (script : List Section) (whole : List ℕ) (history : History)
    → IsRead false seed script whole place rest history
    → CallersFollow reached_by seed script history callers mount
    → IsExpected seed script whole place next
