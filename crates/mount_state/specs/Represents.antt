-- When a state represents a mount: each part of it represents its part of the mount.
use Rattle.std.specs.Prelude.{◌≡◌, ℕ, List, Some}
use Rattle.policy_ctx.specs.declared.policy.KeyId.{KeyId}
use Rattle.key_ring.specs.Holding.{Holding, secret_of}
use Rattle.plain_tree.specs.Facts.{AgreesBy}
use Rattle.disk_tree.specs.DiskTree.{Disk}
use Rattle.mount_model.specs.PlainMount.{PlainMount, raw_in}
use Rattle.mount_model.specs.WellFormed.{IsWellFormed}
use Rattle.mount_state.specs.Handles.{Handles}
use Rattle.mount_state.specs.Stored.{stored_node}
use Rattle.mount_state.specs.CachedNames.{RepresentsNames}
use Rattle.mount_state.specs.declared.state.MountState.{MountState}
use Rattle.mount_state.specs.CachedKeys.{RepresentsCaches}

-- ---- the tree

pub record RepresentsTree (disk : Disk) (next_node : ℕ) (m : PlainMount) : Type 0 where
  -- each node is on the disk in its stored form, under its number, and no other is
  pub nodes : AgreesBy (stored_node m.raws) m.nodes disk
  pub next : next_node ≡ m.next

-- ---- claims and secrets

pub record RepresentsKeys (ring : Holding) (m : PlainMount) : Type 0 where
  pub claims : ring.claims ≡ m.claims
  -- a secret is the raw key that was last added under its identifier
  pub secrets : (id : KeyId) (raw : List ℕ) → secret_of ring id ≡ Some raw → raw_in m.raws id ≡ Some raw

-- ---- handles

pub record RepresentsHandles (handles : Handles) (m : PlainMount) : Type 0 where
  pub live : handles.live ≡ m.handles
  pub opened : handles.opened ≡ m.opened

-- ---- the whole

pub record Represents (s : MountState) (m : PlainMount) : Type 0 where
  pub well : IsWellFormed m
  pub tree : RepresentsTree s.disk s.next_node m
  pub keys : RepresentsKeys s.ring m
  pub handles : RepresentsHandles s.handles m
  pub caches : RepresentsCaches s.inodes s.modes m
  pub names : RepresentsNames s.names m.nodes
  pub records : s.meta ≡ m.records
