-- The reply to a call that a text contains, and what a mount may reply.
use Rattle.std.specs.Prelude.{◌≡◌, ◌≢◌, ℕ, Bool, IsTrue, List, [], ◌∷◌, ◌++◌}
use Rattle.call_history.specs.Entries.{entry}
use Rattle.mount_model.specs.declared.call.Call.{Call}
use Rattle.mount_model.specs.declared.reply.Reply.{Reply}
use Rattle.mount_model.specs.declared.reply.Reply.TheVariants.{Refused}
use Rattle.mount_model.specs.declared.reply.Refusal.TheVariants.{NoMemory}
use Rattle.mount_model.specs.History.{History, IsLegal}
use Rattle.mount_model.specs.Lawful.{KeysAgree}
use Rattle.reply_text.specs.Log.{entry_text}
use Rattle.reply_text.specs.Ranges.{EntryIsInRange}
use Rattle.log_check.specs.Certificate.{BeginsWith}

-- if it is strict, the reply isn't out of memory
abbrev pub ReplyHasMemory : Bool → Reply → Type 0
ReplyHasMemory strict reply = IsTrue strict → reply ≢ Refused NoMemory

-- the text begins with the line of this reply to the caller's call, and the rest comes after it; and each
-- history that may reach the mount before may, with this entry, reach it now
pub record ReadsReplyLine {M : Type 0} (strict : Bool) (reached_by : History → M → Type 0) (old new : M)
    (text : List ℕ)
    (place caller : ℕ) (call : Call) (reply : Reply) (rest : List ℕ) : Type 0 where
  pub line : text ≡ entry_text place (entry caller call reply) ++ rest
  pub in_range : EntryIsInRange (entry caller call reply)
  pub memory : ReplyHasMemory strict reply
  pub reached_of_reply : (history : History) → reached_by history old
      → reached_by (history ++ entry caller call reply ∷ []) new

-- after a history that may reach the mount, the text begins with no line of a reply that the one-thread
-- mount may have to the caller's call
abbrev pub IsUnreplied : {M : Type 0} → Bool → (History → M → Type 0) → M → List ℕ → ℕ → ℕ → Call → Type 0
IsUnreplied strict reached_by mount text place caller call =
    (history : History) → reached_by history mount → (reply : Reply)
    → IsLegal (history ++ entry caller call reply ∷ [])
    → KeysAgree (history ++ entry caller call reply ∷ []) → ReplyHasMemory strict reply
    → ¬ BeginsWith text (entry_text place (entry caller call reply))
