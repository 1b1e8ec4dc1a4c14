-- What a command does after the replies to its calls.
use Rattle.std.specs.Prelude.{◌≡◌, ⊤, ℕ, List, [], ◌++◌, map, Option, Some, None}
use Rattle.call_history.specs.Placed.{entries_of}
use Rattle.mount_model.specs.declared.call.Call.{Call}
use Rattle.mount_model.specs.declared.reply.Reply.{Reply}
use Rattle.mount_model.specs.Fits.{Fits}
use Rattle.mount_model.specs.History.{History}
use Rattle.mount_model.specs.Port.{PlacedCalls}
use Rattle.reply_text.specs.Logged.{PlacedLogged, logged_calls}
use Rattle.fsc_commands.specs.Steps.{Reaches, next_of}
use Rattle.fsc_commands.specs.Steps.Steps.{Done}
use Rattle.fsc_commands.specs.CommandSteps.{CommandSteps}
use Rattle.next_calls.specs.declared.next.Next.{Next}
use Rattle.next_calls.specs.declared.next.Next.TheVariants as next

-- the reply of each entry
abbrev pub replies_of : History → List Reply
replies_of es = map (λ e. e.reply) es

-- the same of what a log shows of entries
abbrev pub logged_replies : PlacedLogged → List Reply
logged_replies placed = map (λ x. x.1.reply) placed

-- the caller's call; none if the command has ended
abbrev pub call_of_next : ℕ → Next → Option (ℕ × Call)
call_of_next caller (next.Call call) = Some (caller, call)
call_of_next caller (next.Ended outcome) = None

-- if steps have ended: the entries after which they have, of which the new list has what a log shows.
-- These replies are theirs, followed by any for which there was no call
abbrev pub EndsSo : CommandSteps → List Reply → PlacedLogged → PlacedLogged → Next → Type 0
EndsSo steps replies old new (next.Call call) = new ≡ old
EndsSo steps replies old new (next.Ended outcome) =
    (made : PlacedCalls) × (new ≡ old ++ logged_calls made)
    × Reaches steps (entries_of made) (Done outcome)
    × ((unasked : List Reply) × (replies ≡ replies_of (entries_of made) ++ unasked))

-- what steps do after any entries that had these replies: the call that comes next, or how they have ended
pub record IsNext (caller : ℕ) (steps : CommandSteps) (replies : List Reply) (old new : PlacedLogged)
    (it : Next) : Type 0 where
  pub call : (told : History) → replies_of told ≡ replies → next_of steps told ≡ call_of_next caller it
  pub ends : EndsSo steps replies old new it

-- a mount may be asked the call
abbrev pub NextFits : Next → Type 0
NextFits (next.Call call) = Fits call
NextFits (next.Ended outcome) = ⊤

-- the replies that remain in the vector
abbrev pub remaining_replies : List Reply → Next → List Reply
remaining_replies replies (next.Call call) = replies
remaining_replies replies (next.Ended outcome) = []
