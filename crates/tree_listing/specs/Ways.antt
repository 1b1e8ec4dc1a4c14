-- The ways by which nodes are found from the root, and the places of their entries in the text.
use Rattle.std.specs.Prelude.{◌≡◌, ◌↔◌, ℕ, Bool, true, false, IsTrue, List, length, drop}
use Rattle.std.specs.Prelude.{slice_get, slice_index_or, Option, Some, None}
use Rattle.std.specs.List.{before_first}
use Rattle.text_words.specs.Lines.{is_line_feed}
use Rattle.image_lines.specs.Image.{Image, ImageNode}
use Rattle.image_lines.specs.ImageText.{image_text}
use Rattle.image_lines.specs.Lines.{entry_of_line}
use Rattle.tree_listing.specs.declared.walk.Way.{Way}
use Rattle.tree_listing.specs.declared.walk.Way.TheVariants.{Nowhere, AtRoot, By}
use Rattle.tree_listing.specs.PlacedEntries.{IsReached, PlacedEntry, entry_to}

-- the entry of the line that begins at this index of the text
abbrev pub entry_at : List ℕ → ℕ → Option (List ℕ × ℕ)
entry_at text at = entry_of_line (before_first is_line_feed (drop at text))

-- the entry whose child is node n is in the directory of this number, and its line begins at this index
pub record IsEntryTo (image : Image) (n parent at : ℕ) : Type 0 where
  pub placed : PlacedEntry
  pub leads : entry_to image n ≡ Some placed
  pub has : placed.0.number ≡ parent
  pub line : entry_at (image_text image) at ≡ Some placed.1

-- the way by which node n was found, if it is one of those that were found
abbrev pub IsWayTo : Image → Bool → ℕ → Way → Type 0
IsWayTo image found n Nowhere = found ≡ false
IsWayTo image found n AtRoot = (found ≡ true) × (entry_to image n ≡ None)
IsWayTo image found n (By parent at) = (found ≡ true) × IsEntryTo image n parent at

abbrev pub is_nowhere : Way → Bool
is_nowhere Nowhere = true
is_nowhere AtRoot = false
is_nowhere (By parent at) = false

-- a way for each node; the test is true of the nodes that were found
pub record AreWays (image : Image) (found : ℕ → Bool) (ways : List Way) : Type 0 where
  pub long : length ways ≡ length image
  pub each : (i : ℕ) (node : ImageNode) → slice_get image i ≡ Some node
      → IsWayTo image (found node.number) node.number (slice_index_or ways i Nowhere)

-- the ways to all nodes that are reached
pub record AreWaysToReached (image : Image) (ways : List Way) : Type 0 where
  pub reached : ℕ → Bool
  pub exact : (n : ℕ) → IsTrue (reached n) ↔ IsReached image n
  pub own : AreWays image reached ways

-- the way to the node at an index
abbrev pub IsWayAt : Image → ℕ → Way → Type 0
IsWayAt image index way = (node : ImageNode) → slice_get image index ≡ Some node
    → (found : Bool) × IsWayTo image found node.number way
