-- The pending read of a Read.
use Rattle.std.specs.Prelude.{⊤, ℕ}
use Rattle.mount_model.specs.declared.call.Op.{Op}
use Rattle.mount_model.specs.declared.call.Op.TheVariants.{Read}
use Rattle.mount_model.specs.OpenHandles.{node_of}
use Rattle.mount_state.specs.declared.state.MountState.{MountState}
use Rattle.mount_files.specs.Pending.{IsPending}
use Rattle.mount_files.specs.declared.pending.Pending.{Pending}

-- it has the stored bytes of the blocks of the requested part, of the file of the caller's handle, and what
-- these are sealed with
abbrev pub IsPendingOfHandle : MountState → ℕ → Op → Pending → Type 0
IsPendingOfHandle s caller (Read handle offset len) lent =
    IsPending s (node_of s.handles.live caller handle) offset len lent
IsPendingOfHandle s caller op lent = ⊤
