-- What is reported of a key is so in the state itself, whatever raw keys were added.
use Rattle.std.specs.Prelude.{◌≡◌, ⊤, ℕ, Bool, false}
use Rattle.mount_model.specs.declared.call.Op.{Op}
use Rattle.mount_model.specs.declared.call.Op.TheVariants.{RemoveKey, RemoveKeyAll, KeyStatus}
use Rattle.mount_model.specs.declared.reply.Reply.{Reply}
use Rattle.mount_model.specs.declared.reply.Reply.TheVariants.{Removed, Status}
use Rattle.mount_model.specs.declared.reply.KeyState.TheVariants.{Absent}
use Rattle.mount_state.specs.KeyUse.{HoldsNothing, is_in_use}
use Rattle.mount_state.specs.declared.state.MountState.{MountState}

-- if a key is reported as Absent, nothing of it is held
abbrev pub AbsentHoldsNothing : MountState → Op → Reply → Type 0
AbsentHoldsNothing s (KeyStatus id) reply =
    (by_self : Bool) (users : ℕ) → reply ≡ Status Absent by_self users
    → HoldsNothing s.disk s.ring s.inodes s.modes s.names id
AbsentHoldsNothing s op reply = ⊤

-- if no claim is left, busy is reported exactly when some handle is on a node whose context names the key
abbrev pub BusyIsOpen : MountState → Op → Reply → Type 0
BusyIsOpen s (RemoveKey id) reply = (busy : Bool)
    → reply ≡ Removed false busy → busy ≡ is_in_use s.disk s.handles.live id
BusyIsOpen s (RemoveKeyAll id) reply = (busy : Bool)
    → reply ≡ Removed false busy → busy ≡ is_in_use s.disk s.handles.live id
BusyIsOpen s op reply = ⊤
