-- What a call leaves of a state as it was: each part but those that it may change.
use Rattle.std.specs.Prelude.{◌≡◌, ⊤, Bool, true, false, List, [], ◌∷◌, ◌||◌}
use Rattle.mount_state.specs.declared.state.MountState.{MountState}

-- the parts of a state; of what is cached for nodes the keys and the pins are one each
pub data Part : Type 0 where
  Disk : Part
  NextNode : Part
  Ring : Part
  Records : Part
  CachedKeys : Part
  Pins : Part
  OpenHandles : Part
  ModeKeys : Part
  CachedNames : Part

abbrev pub same_part : Part → Part → Bool
same_part Disk Disk = true
same_part NextNode NextNode = true
same_part Ring Ring = true
same_part Records Records = true
same_part CachedKeys CachedKeys = true
same_part Pins Pins = true
same_part OpenHandles OpenHandles = true
same_part ModeKeys ModeKeys = true
same_part CachedNames CachedNames = true
same_part a b = false

abbrev pub is_among : List Part → Part → Bool
is_among [] part = false
is_among (p ∷ parts) part = same_part p part || is_among parts part

abbrev pub Unless : Bool → Type 0 → Type 0
Unless true fact = ⊤
Unless false fact = fact

-- no part differs but those that are listed: one line for each part that there is
pub record SameBut (changing : List Part) (old new : MountState) : Type 0 where
  pub disk : Unless (is_among changing Disk) (new.disk ≡ old.disk)
  pub next_node : Unless (is_among changing NextNode) (new.next_node ≡ old.next_node)
  pub ring : Unless (is_among changing Ring) (new.ring ≡ old.ring)
  pub meta : Unless (is_among changing Records) (new.meta ≡ old.meta)
  pub keys : Unless (is_among changing CachedKeys) (new.inodes.keys ≡ old.inodes.keys)
  pub pins : Unless (is_among changing Pins) (new.inodes.pins ≡ old.inodes.pins)
  pub handles : Unless (is_among changing OpenHandles) (new.handles ≡ old.handles)
  pub modes : Unless (is_among changing ModeKeys) (new.modes ≡ old.modes)
  pub names : Unless (is_among changing CachedNames) (new.names ≡ old.names)

-- nothing differs at all
abbrev pub IsSame : MountState → MountState → Type 0
IsSame old new = SameBut [] old new
