-- How the nodes of an image are found from the root.
use Rattle.std.specs.Prelude.{◌≡◌, ◌<◌, ◌+◌, ◌++◌, ℕ, Bool, true, nat_eq, List, length, count_by}
use Rattle.std.specs.Prelude.{slice_index, All, Contains}
use Rattle.std.specs.List.{list_any}
use Rattle.disk_tree.specs.Entries.{Entries}
use Rattle.disk_tree.specs.Nodes.{entries_of}
use Rattle.image_lines.specs.Image.{Image, ImageNode}
use Rattle.tree_listing.specs.declared.walk.Walk.{Walk}
use Rattle.tree_listing.specs.PlacedEntries.{IsReached}
use Rattle.tree_listing.specs.Ways.{is_nowhere, AreWays}

abbrev pub is_among : List ℕ → ℕ → Bool
is_among numbers n = list_any (nat_eq n) numbers

-- a walk over nodes that entries reach
pub record IsWalk (image : Image) (walk : Walk) : Type 0 where
  pub ways : AreWays image (is_among walk.order.items) walk.ways.items
  pub reached : All (IsReached image) walk.order.items
  pub counted : length walk.order.items + count_by is_nowhere walk.ways.items ≡ length image

-- one walk continues the other: it has found the other's nodes, in this order, and maybe more
abbrev pub GoesOn : Walk → Walk → Type 0
GoesOn before after = (more : List ℕ) × (after.order.items ≡ before.order.items ++ more)

-- the children of a directory's entries are found
abbrev pub AreFound : List ℕ → Entries → Type 0
AreFound order entries = All (λ e. is_among order e.1 ≡ true) entries

-- the entries are those of the node of this number
pub record HasEntries (image : Image) (n : ℕ) (entries : Entries) : Type 0 where
  pub dir : ImageNode
  pub there : Contains image dir
  pub number : dir.number ≡ n
  pub own : entries_of dir.body ≡ entries

-- the children of the entries of the node of this number are found
abbrev pub IsFollowed : Image → List ℕ → ℕ → Type 0
IsFollowed image order n = (dir : ImageNode) → Contains image dir → dir.number ≡ n
    → AreFound order (entries_of dir.body)

-- the first nodes that were found are followed: the children of their entries are found too
abbrev pub AreFollowed : Image → List ℕ → ℕ → Type 0
AreFollowed image order count = (k : ℕ) → k < count → IsFollowed image order (slice_index order k)
