-- The children of the entries of an image, and the nodes that entries reach from the root.
use Rattle.std.specs.Prelude.{◌≡◌, ◌==◌, ℕ, List, map, Option, Some}
use Rattle.std.specs.List.{find, flat_map}
use Rattle.disk_tree.specs.Nodes.{entries_of}
use Rattle.image_lines.specs.Image.{Image, ImageNode}

-- an entry with the directory that has it
abbrev pub PlacedEntry : Type 0
PlacedEntry = ImageNode × (List ℕ × ℕ)

abbrev pub placed_in : ImageNode → List PlacedEntry
placed_in dir = map (λ e. (dir, e)) (entries_of dir.body)

abbrev pub placed_entries : Image → List PlacedEntry
placed_entries image = flat_map placed_in image

-- the entry whose child is node n: in an image there is at most one
abbrev pub entry_to : Image → ℕ → Option PlacedEntry
entry_to image n = find (λ placed. placed.1.1 == n) (placed_entries image)

-- reached from the root by entries
pub data IsReached (image : Image) : ℕ → Type 0 where
  root : IsReached image 0
  step : (n : ℕ) (placed : PlacedEntry) → entry_to image n ≡ Some placed → IsReached image placed.0.number
      → IsReached image n
