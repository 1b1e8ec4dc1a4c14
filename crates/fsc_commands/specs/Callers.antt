-- The caller of a command: what holds of it before its work, what stays through it, and what an answered
-- call leaves.
use Rattle.std.specs.Prelude.{◌≡◌, ℕ, ◌+◌, ◌≤◌, [], ◌∷◌}
use Rattle.mount_model.specs.Port.{PlacedCalls}
use Rattle.mount_model.specs.declared.call.Call.{Call}
use Rattle.reply_text.specs.Logged.{LoggedEntry, logged_entry}
use Rattle.session_records.specs.declared.turn.Turn.{Turn}
use Rattle.fsc_commands.specs.declared.work.Caller.{Caller}
use Rattle.fsc_commands.specs.MadeCalls.{entry_of_logged}

-- the port is that of the caller whose turn it is, and has `least` calls left or more
pub record MayAsk {P : Type 0} (who calls_left : P → ℕ) (least : ℕ) (turn : Turn) (caller : Caller P)
    : Type 0 where
  pub own : turn.caller ≡ who caller.port.now
  pub enough : least ≤ calls_left caller.port.now

-- it is the same caller still, with the same port and the same list
pub record IsSameCaller {P : Type 0} (who : P → ℕ) (old new : Caller P) : Type 0 where
  pub number : who new.port.now ≡ who old.port.now
  pub port : new.port.ghost_name ≡ old.port.ghost_name
  pub entries : new.entries.ghost_name ≡ old.entries.ghost_name

-- the call was answered, and the list doesn't have the shown entry, with its place, yet
pub record AnsweredCall {P : Type 0} (after_calls : P → PlacedCalls → P → Type 0) (left : P → ℕ)
    (old new : Caller P)
    (caller : ℕ) (call : Call) (placed : ℕ × LoggedEntry) : Type 0 where
  pub reached_by_call : after_calls old.port.now (entry_of_logged caller call placed ∷ []) new.port.now
  pub shown : placed ≡ (placed.0, logged_entry (entry_of_logged caller call placed).1)
  pub one_fewer : left new.port.now + 1 ≡ left old.port.now
  pub unlisted : new.entries.now ≡ old.entries.now
