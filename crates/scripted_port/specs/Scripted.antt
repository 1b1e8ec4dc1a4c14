-- A port that answers listed replies, one after another; after them it refuses each call as out of memory,
-- and stores the first of these calls.
use Rattle.std.specs.Prelude.{◌≡◌, ℕ, ◌+◌, ◌-◌, Bool, List, [], ◌∷◌, drop}
use Rattle.mount_model.specs.declared.call.Call.{Call}
use Rattle.mount_model.specs.declared.reply.Reply.{Reply}
use Rattle.mount_model.specs.declared.reply.Reply.TheVariants.{Refused}
use Rattle.mount_model.specs.declared.reply.Refusal.TheVariants.{NoMemory}
use Rattle.mount_model.specs.History.{MountEntry}
use Rattle.mount_model.specs.Port.{PlacedCalls}
use Rattle.scripted_port.specs.declared.port.Further.{Further}
use Rattle.scripted_port.specs.FurtherCalls.{further_after}

-- the caller, its calls that are left, the place of the next one, the replies that are left, the next one
-- first, and the first call after them
pub record ScriptedView : Type 0 where
  pub caller : ℕ
  pub left : ℕ
  pub place : ℕ
  pub replies : List Reply
  pub further : Further

abbrev pub scripted_view : ℕ → ℕ → ℕ → List Reply → Further → ScriptedView
scripted_view caller left place replies further =
    record { caller = caller; left = left; place = place; replies = replies; further = further }

-- the next reply
abbrev pub next_reply : List Reply → Reply
next_reply [] = Refused NoMemory
next_reply (reply ∷ more) = reply

-- the port after a call
abbrev pub after_call : ScriptedView → Call → Bool → ScriptedView
after_call port call lost =
    scripted_view port.caller (port.left - 1) (port.place + 1) (drop 1 port.replies)
    (further_after port.replies port.further call lost)

-- the port's next call has this entry and place
pub record IsAnswered (port : ScriptedView) (placed : ℕ × MountEntry) : Type 0 where
  pub place : placed.0 ≡ port.place
  pub who : placed.1.who ≡ port.caller
  pub reply : placed.1.reply ≡ next_reply port.replies

-- the port went from `old` to `new` by these calls
abbrev pub ScriptedAfterCalls : ScriptedView → PlacedCalls → ScriptedView → Type 0
ScriptedAfterCalls old [] new = new ≡ old
ScriptedAfterCalls old (x ∷ xs) new =
    (lost : Bool) × IsAnswered old x × ScriptedAfterCalls (after_call old x.1.call lost) xs new
