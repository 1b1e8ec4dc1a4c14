-- The text of an image: a line for each node, each followed by one for each entry or block.
use Rattle.std.specs.Prelude.{ℕ, List, [], ◌∷◌, ◌++◌, map, codes, Option, None, Some}
use Rattle.std.specs.List.{flat_map}
use Rattle.hex.specs.Hex.{encode_lower}
use Rattle.text_words.specs.Numbers.{decimal_of}
pub use Rattle.text_words.specs.Lines.{ended}
use Rattle.disk_tree.specs.declared.node.Body.{Body}
use Rattle.disk_tree.specs.declared.node.Body.TheVariants as body
use Rattle.image_lines.specs.declared.node_line.NodeKind.{NodeKind}
use Rattle.image_lines.specs.declared.node_line.NodeKind.TheVariants.{Dir, File, Link}
use Rattle.image_lines.specs.declared.node_line.NodeLine.{NodeLine}
use Rattle.image_lines.specs.Image.{Image, ImageNode}

-- the 80 digits of a context, or `-`
abbrev pub context_text : Option (List ℕ) → List ℕ
context_text None = codes "-"
context_text (Some context) = encode_lower context

-- the kind and the context, followed by the size of a file, the stored target of a link
abbrev pub kind_text : Option (List ℕ) → NodeKind → List ℕ
kind_text context Dir = codes "dir " ++ context_text context
kind_text context (File size) = codes "file " ++ (context_text context ++ 32 ∷ decimal_of size)
kind_text context (Link target) = codes "link " ++ (context_text context ++ 32 ∷ encode_lower target)

abbrev pub node_line : NodeLine → List ℕ
node_line node = codes "node " ++ (decimal_of node.number ++ 32 ∷ kind_text node.context node.kind)

-- the child's number and the stored name
abbrev pub entry_line : List ℕ × ℕ → List ℕ
entry_line e = codes "entry " ++ (decimal_of e.1 ++ 32 ∷ encode_lower e.0)

abbrev pub block_line : List ℕ → List ℕ
block_line block = codes "block " ++ encode_lower block

-- what the line of a node contains of its body
abbrev pub kind_of_body : Body → NodeKind
kind_of_body (body.Dir entries) = Dir
kind_of_body (body.File blocks size) = File size
kind_of_body (body.Link target) = Link target

abbrev pub line_of : ImageNode → NodeLine
line_of node = record { number = node.number; context = node.context; kind = kind_of_body node.body }

-- the lines of a directory's entries, or of a file's blocks
abbrev pub body_lines : Body → List (List ℕ)
body_lines (body.Dir entries) = map entry_line entries
body_lines (body.File blocks size) = map block_line blocks
body_lines (body.Link target) = []

abbrev pub node_lines : ImageNode → List (List ℕ)
node_lines node = node_line (line_of node) ∷ body_lines node.body

-- the first line of every image
abbrev pub header : List ℕ
header = codes "fsc-image 1"

unfoldable pub image_text : Image → List ℕ
image_text image = ended (header ∷ flat_map node_lines image)
