-- What a walk may change of a state: which keys of nodes and which names are cached, and nothing else.
use Rattle.std.specs.Prelude.{[], ◌∷◌}
use Rattle.mount_model.specs.PlainMount.{PlainMount}
use Rattle.mount_state.specs.SameBut.{SameBut, CachedKeys, CachedNames}
use Rattle.mount_state.specs.Represents.{Represents}
use Rattle.mount_state.specs.declared.state.MountState.{MountState}

abbrev pub SameButCaches : MountState → MountState → Type 0
SameButCaches old new = SameBut (CachedKeys ∷ CachedNames ∷ []) old new

-- it still represents each mount that it represented
abbrev pub StaysFor : MountState → MountState → Type 0
StaysFor old new = (m : PlainMount) → Represents old m → Represents new m
