-- The invariants of each state, whatever raw keys were added, which make its calls safe.
use Rattle.std.specs.Prelude.{◌≡◌, ℕ, ◌<◌, true, is_some}
use Rattle.number_map.specs.Numbered.{get}
use Rattle.disk_tree.specs.DiskTree.{Disk}
use Rattle.mount_model.specs.PlainMount.{HandleList}
use Rattle.mount_model.specs.OpenHandles.{has_handle}

pub record IsSafe (disk : Disk) (next : ℕ) (live : HandleList) : Type 0 where
  -- the number of each node is below that of the next one
  pub below : (node : ℕ) → is_some (get disk node) ≡ true → node < next
  -- a handle is on a node that is there
  pub there : (node : ℕ) → has_handle live node ≡ true → is_some (get disk node) ≡ true
