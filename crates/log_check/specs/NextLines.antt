-- Whose line a text goes on with, and what reading it makes of callers and mount.
use Rattle.std.specs.Prelude.{◌≡◌, ◌<◌, ℕ, ◌+◌, Bool, true, false, List, [], ◌∷◌, ◌++◌, length, codes, slice_get, Option, Some, None}
use Rattle.mount_model.specs.declared.call.Call.{Call}
use Rattle.mount_model.specs.Fits.{Fits}
use Rattle.mount_model.specs.History.{MountEntry, History}
use Rattle.script_lang.specs.declared.commands.Section.{Section}
use Rattle.reply_text.specs.Logged.{line_head}
use Rattle.next_calls.specs.Callers.{CallerView}
use Rattle.log_check.specs.Certificate.{BeginsWith}
use Rattle.log_check.specs.Stops.{IsRead, IsBlocked}
use Rattle.log_check.specs.Reading.{CallersFollow}

-- the text begins with the place, the caller's number and the user of the call that it awaits a reply to
abbrev pub HasLine : ℕ → List ℕ → CallerView → Call → Type 0
HasLine place text caller call = BeginsWith text (line_head place caller.caller call.uid ++ codes " ")

-- that call, which a mount may be asked; or that the text has no such line
abbrev pub IsAwaited : CallerView → ℕ → List ℕ → Option Call → Type 0
IsAwaited caller place text None =
    (call : Call) → caller.waiting ≡ Some call → ¬ HasLine place text caller call
IsAwaited caller place text (Some call) =
    (caller.waiting ≡ Some call) × HasLine place text caller call × Fits call

-- the caller whose line the text begins with, by its number, with that call; or that there is none
abbrev pub IsNextCaller : List CallerView → ℕ → List ℕ → Option (ℕ × Call) → Type 0
IsNextCaller callers place text None =
    (number : ℕ) (caller : CallerView) → slice_get callers number ≡ Some caller
    → IsAwaited caller place text None
IsNextCaller callers place text (Some found) =
    (caller : CallerView) × (slice_get callers found.0 ≡ Some caller)
    × IsAwaited caller place text (Some found.1)

-- if a line was read, the callers and the mount are after the history with one entry more, whose line the
-- text began with; if none was, all is as before, except the mount, and no entry continues by such a line
abbrev pub IsLineRead : {M : Type 0} → Bool → (History → M → Type 0) → List ℕ → List CallerView → ℕ → List ℕ
    → M → List CallerView → ℕ → List ℕ → M → Bool → Type 0
IsLineRead strict reached_by seed callers place text mount callers' place' text' mount' true =
    (length text' < length text) × (place' ≡ place + 1)
    × ((script : List Section) (whole : List ℕ) (history : History)
    → IsRead strict seed script whole place text history
    → CallersFollow reached_by seed script history callers mount
    → (e : MountEntry) × IsRead strict seed script whole place' text' (history ++ e ∷ [])
    × CallersFollow reached_by seed script (history ++ e ∷ []) callers' mount')
IsLineRead strict reached_by seed callers place text mount callers' place' text' mount' false =
    (callers' ≡ callers) × (place' ≡ place) × (text' ≡ text)
    × ((script : List Section) (whole : List ℕ) (history : History)
    → IsRead strict seed script whole place text history
    → CallersFollow reached_by seed script history callers mount
    → IsBlocked strict seed script history place text)
