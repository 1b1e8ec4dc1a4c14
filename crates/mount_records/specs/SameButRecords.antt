-- What storing a record may change of a state: the records, and nothing else.
use Rattle.std.specs.Prelude.{[], ◌∷◌}
use Rattle.mount_state.specs.SameBut.{SameBut, Records}
use Rattle.mount_state.specs.declared.state.MountState.{MountState}

abbrev pub SameButRecords : MountState → MountState → Type 0
SameButRecords old new = SameBut (Records ∷ []) old new
