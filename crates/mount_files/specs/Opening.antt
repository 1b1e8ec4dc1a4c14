-- What a call on handles leaves of a state.
use Rattle.std.specs.Prelude.{◌≡◌, ℕ, Bool, true, false, [], ◌∷◌}
use Rattle.disk_tree.specs.declared.node.Body.{Body}
use Rattle.disk_tree.specs.declared.node.Body.TheVariants.{Dir, File, Link}
use Rattle.mount_model.specs.OpenHandles.{has_handle, opens_of}
use Rattle.mount_model.specs.declared.reply.Reply.{Reply}
use Rattle.mount_model.specs.declared.reply.Reply.TheVariants.{Opened}
use Rattle.mount_state.specs.Handles.{with_handle, without}
use Rattle.mount_state.specs.SameBut.{SameBut, Disk, CachedKeys, Pins, OpenHandles, ModeKeys, CachedNames}
use Rattle.mount_state.specs.declared.state.MountState.{MountState}
use Rattle.mount_files.specs.Closing.{disk_after_close, keys_after_close, modes_after_close, names_after_close}

-- ---- OpenNode

-- a symlink, as it is on the disk
abbrev pub is_link_body : Body → Bool
is_link_body (Dir entries) = false
is_link_body (File blocks size) = false
is_link_body (Link target) = true

-- nothing differs but what is open, which keys are cached for it, and which names are
abbrev pub SameButOpen : MountState → MountState → Type 0
SameButOpen old new = SameBut (CachedKeys ∷ Pins ∷ OpenHandles ∷ ModeKeys ∷ CachedNames ∷ []) old new

-- the caller has a new handle on the node
pub record OpensOne (old new : MountState) (caller node : ℕ) : Type 0 where
  pub same : SameButOpen old new
  pub handles : new.handles ≡ with_handle old.handles caller node

-- the same on some node, and the reply is the handle's number: how many the caller opened before
pub record OpensWithNextHandle (old new : MountState) (caller : ℕ) (reply : Reply) : Type 0 where
  pub node : ℕ
  pub one : OpensOne old new caller node
  pub number : reply ≡ Opened (opens_of old.handles.opened caller)

-- ---- Close

-- nothing differs but what is open, which keys are cached for it, which names are, and the nodes
abbrev pub SameButClosed : MountState → MountState → Type 0
SameButClosed old new = SameBut (Disk ∷ CachedKeys ∷ Pins ∷ OpenHandles ∷ ModeKeys ∷ CachedNames ∷ []) old new

-- the caller's handle of this number, which is on the node, is closed, and with it goes what it needed
pub record ClosesOne (old new : MountState) (caller number node : ℕ) : Type 0 where
  pub handles : new.handles ≡ without old.handles caller number
  pub disk : new.disk ≡ disk_after_close old.disk (has_handle new.handles.live node) node
  pub keys : new.inodes.keys
      ≡ keys_after_close old.disk old.ring.claims old.inodes.keys (has_handle new.handles.live node) node
  pub modes : new.modes ≡ modes_after_close old.disk old.modes node
  pub names : new.names
      ≡ names_after_close old.disk old.ring.claims old.names (has_handle new.handles.live node) node
