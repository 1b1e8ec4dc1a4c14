-- Where nodes are in a text, and what is read there.
use Rattle.std.specs.Prelude.{ℕ, ◌+◌, List, [], ◌∷◌, ◌++◌, length, map, drop, Option, None, Some}
use Rattle.std.specs.List.Sorted.{IsStrictlySortedBy}
use Rattle.std.specs.Ordering.{nat_cmp}
use Rattle.text_words.specs.Lines.{pieces_of}
use Rattle.disk_tree.specs.declared.node.Body.TheVariants as body
use Rattle.image_lines.specs.declared.node_line.NodeLine.{NodeLine}
use Rattle.image_lines.specs.declared.round_of_lines.NodePlace.{NodePlace}
use Rattle.image_lines.specs.Image.{ImageNode}
use Rattle.image_lines.specs.Lines.{node_of_line}
use Rattle.image_lines.specs.WordForms.{node_at}

-- in place of a node, if a text has none
abbrev pub no_node : ImageNode
no_node = record { number = 0; context = None; body = body.Link [] }

abbrev pub node_or_none : Option NodeLine → List (List ℕ) → ImageNode
node_or_none None lines = no_node
node_or_none (Some node) lines = node_at node lines

-- the node of the first line
abbrev pub first_node : List (List ℕ) → ImageNode
first_node [] = no_node
first_node (line ∷ lines) = node_or_none (node_of_line line) lines

-- the node at a place of the text
abbrev pub node_of_place : List ℕ → NodePlace → ImageNode
node_of_place text place =
    record (first_node (pieces_of (drop place.at text))) { number = place.number }

-- the place of a node whose line begins at this index, if the line is a node's
abbrev pub place_of_line : Option NodeLine → ℕ → List NodePlace
place_of_line None at = []
place_of_line (Some node) at = record { number = node.number; at = at } ∷ []

-- the places of the nodes among these lines, of which the first begins at this index
unfoldable pub places_from : ℕ → List (List ℕ) → List NodePlace
places_from at [] = []
places_from at (line ∷ lines)
    = place_of_line (node_of_line line) at ++ places_from (at + length line + 1) lines

-- the places of the nodes of a text
abbrev pub places_in : List ℕ → List NodePlace
places_in text = places_from 0 (pieces_of text)

-- the numbers of the nodes at places
abbrev pub numbers_at : List NodePlace → List ℕ
numbers_at places = map (λ place. place.number) places

-- they rise strictly
abbrev pub DoRise : List NodePlace → Type 0
DoRise places = IsStrictlySortedBy nat_cmp (numbers_at places)
