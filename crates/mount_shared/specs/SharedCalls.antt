-- What calls make of a pass to a shared machine.
use Rattle.std.specs.Prelude.{◌≡◌, ◌+◌, ◌++◌, length}
use Rattle.call_history.specs.Prefix.{IsPrefix}
use Rattle.mount_model.specs.declared.call.Call.{Call}
use Rattle.mount_model.specs.declared.reply.Reply.{Reply}
use Rattle.mount_model.specs.History.{History}
use Rattle.mount_model.specs.Port.{PlacedCalls}
use Rattle.turn_lock.specs.Passes.{PassView}

-- a pass of the mount's calls
abbrev pub MountPass : Type 0
MountPass = PassView Call Reply

-- the pass has made these calls, as its own, and has seen more of the history, which is still lawful;
-- all else is as before
pub record PassAfterCalls (lawful : History → Type 0) (old : MountPass) (calls : PlacedCalls)
    (new : MountPass)
    : Type 0 where
  pub made : new.mine ≡ old.mine ++ calls
  pub more : IsPrefix old.seen new.seen
  pub answered : lawful old.seen → lawful new.seen
  pub counted : new.left + length calls ≡ old.left
  pub same_table : new.table ≡ old.table
  pub same_caller : new.who ≡ old.who
  pub same_high : new.high ≡ old.high
  pub same_past : new.past ≡ old.past
