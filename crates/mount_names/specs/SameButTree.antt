-- What a call on the tree may change of a state: the tree, the number of the next node, and which keys
-- of nodes and which names are cached.
use Rattle.std.specs.Prelude.{[], ◌∷◌}
use Rattle.mount_state.specs.SameBut.{SameBut, Disk, NextNode, CachedKeys, ModeKeys, CachedNames}
use Rattle.mount_state.specs.declared.state.MountState.{MountState}

abbrev pub SameButTree : MountState → MountState → Type 0
SameButTree old new = SameBut (Disk ∷ NextNode ∷ CachedKeys ∷ CachedNames ∷ []) old new

-- What giving a policy may change of a state: contexts, which keys of nodes and which
-- names are cached, and mode keys.
abbrev pub SameButPolicies : MountState → MountState → Type 0
SameButPolicies old new = SameBut (Disk ∷ CachedKeys ∷ ModeKeys ∷ CachedNames ∷ []) old new
