-- A node of an image at its place in the text, and what follows it.
use Rattle.std.specs.Prelude.{◌≡◌, ◌-◌, ℕ, List, length, drop}
use Rattle.std.specs.List.{flat_map}
use Rattle.text_words.specs.Lines.{pieces_of}
use Rattle.image_lines.specs.declared.image.NodeText.{NodeText}
use Rattle.image_lines.specs.Image.{Image, ImageNode}
use Rattle.image_lines.specs.ImageText.{ended, node_lines}
use Rattle.image_lines.specs.WordForms.{node_at}

-- the node
abbrev pub node_in : NodeText → ImageNode
node_in node = node_at node.line (pieces_of node.rest.now)

-- the bytes are the end of the text
abbrev pub IsRestOf : List ℕ → List ℕ → Type 0
IsRestOf text rest = rest ≡ drop (length text - length rest) text

-- the text after the own line of the node at this index: the lines of its entries or blocks, and of the nodes
-- after it
abbrev pub text_after : Image → ℕ → List ℕ
text_after image index = ended (drop 1 (flat_map node_lines (drop index image)))
