-- The lines of the nodes that were found.
use Rattle.std.specs.Prelude.{◌≡◌, ◌++◌, ℕ, List, [], ◌∷◌, if◌then◌else◌, slice_get, Some}
use Rattle.image_lines.specs.Image.{Image, ImageNode}
use Rattle.tree_listing.specs.declared.walk.Way.{Way}
use Rattle.tree_listing.specs.ListingText.{ListedNode, line_text}
use Rattle.tree_listing.specs.Ways.{is_nowhere}

-- the line of a node, if it was found
abbrev pub line_by : Way → ListedNode → List ℕ
line_by way node = if is_nowhere way then [] else line_text node ++ 10 ∷ []

-- a text with the line of the node at an index after it, if that was found
abbrev pub WritesAt : Image → (ImageNode → ListedNode) → ℕ → Way → List ℕ → List ℕ → Type 0
WritesAt image show index way before after = (node : ImageNode) → slice_get image index ≡ Some node
    → after ≡ before ++ line_by way (show node)
