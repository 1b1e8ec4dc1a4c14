-- The listing of an image, for a reader with a raw key, or without one.
use Rattle.std.specs.Prelude.{◌≡◌, ◌↔◌, ℕ, Bool, IsTrue, List, length, map, filter, Option}
use Rattle.std.specs.Option.{option_map}
use Rattle.disk_tree.specs.declared.node.Body.{Body}
use Rattle.disk_tree.specs.declared.node.Body.TheVariants as stored
use Rattle.image_lines.specs.Image.{Image, ImageNode}
use Rattle.tree_listing.specs.Sights.{sight_of, visible_word, visible_digest}
use Rattle.tree_listing.specs.ListingText.{ListedBody, Dir, File, Link, ListedNode, listing_text}
use Rattle.tree_listing.specs.PlacedEntries.{PlacedEntry, entry_to, IsReached}

-- the parent's number, and the name as the reader sees it in the parent
abbrev pub visible_place : Option (List ℕ) → PlacedEntry → ℕ × List ℕ
visible_place raw placed =
    (placed.0.number, visible_word (sight_of raw placed.0.context) placed.0.number placed.1.0)

abbrev pub visible_body : Option (List ℕ) → ℕ → Option (List ℕ) → Body → ListedBody
visible_body raw n context (stored.Dir entries) = Dir (length entries)
visible_body raw n context (stored.File blocks size) =
    File size (visible_digest (sight_of raw context) n blocks size)
visible_body raw n context (stored.Link target) = Link (visible_word (sight_of raw context) n target)

abbrev pub listed : Option (List ℕ) → Image → ImageNode → ListedNode
listed raw image node = record {
  number = node.number;
  place = option_map (visible_place raw) (entry_to image node.number);
  body = visible_body raw node.number node.context node.body;
}

-- the listing of an image with this raw key, or with none: a line for each node that is reached, in order of
-- number
pub record IsListing (image : Image) (raw : Option (List ℕ)) (text : List ℕ) : Type 0 where
  pub reached : ℕ → Bool
  pub exact : (n : ℕ) → IsTrue (reached n) ↔ IsReached image n
  pub lines : text ≡ listing_text (map (listed raw image) (filter (λ node. reached node.number) image))

-- an image has one listing with a raw key, and one without
abbrev pub ListingsAreOne : Type 0
ListingsAreOne = (image : Image) (raw : Option (List ℕ)) (a b : List ℕ) → IsListing image raw a
    → IsListing image raw b
    → a ≡ b
