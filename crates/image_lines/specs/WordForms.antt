-- What the lines of an image contain together: entries, blocks and nodes.
use Rattle.std.specs.Prelude.{ℕ, List, [], ◌∷◌, Option, Some, None}
use Rattle.disk_tree.specs.Entries.{Entries}
use Rattle.disk_tree.specs.declared.node.Body.{Body}
use Rattle.disk_tree.specs.declared.node.Body.TheVariants as body
use Rattle.image_lines.specs.declared.node_line.NodeKind.{NodeKind}
use Rattle.image_lines.specs.declared.node_line.NodeKind.TheVariants.{Dir, File, Link}
use Rattle.image_lines.specs.declared.node_line.NodeLine.{NodeLine}
use Rattle.image_lines.specs.Image.{Image, ImageNode}
use Rattle.image_lines.specs.Lines.{node_of_line, entry_of_line, block_of_line}

-- a value before others, if there is one
abbrev pub while_some : {A : Type 0} → Option A → List A → List A
while_some None others = []
while_some (Some x) others = x ∷ others

-- the entries of the entry lines at the beginning
unfoldable pub entries_at : List (List ℕ) → Entries
entries_at [] = []
entries_at (line ∷ lines) = while_some (entry_of_line line) (entries_at lines)

-- the blocks of the block lines at the beginning
unfoldable pub blocks_at : List (List ℕ) → List (List ℕ)
blocks_at [] = []
blocks_at (line ∷ lines) = while_some (block_of_line line) (blocks_at lines)

-- what a node is, and what the lines after its own contain of its body
abbrev pub body_at : NodeKind → List (List ℕ) → Body
body_at Dir lines = body.Dir (entries_at lines)
body_at (File size) lines = body.File (blocks_at lines) size
body_at (Link target) lines = body.Link target

abbrev pub node_at : NodeLine → List (List ℕ) → ImageNode
node_at node lines =
    record { number = node.number; context = node.context; body = body_at node.kind lines }

-- the node of a line, if it is a node's, before others
abbrev pub with_node_at : Option NodeLine → List (List ℕ) → Image → Image
with_node_at None lines image = image
with_node_at (Some node) lines image = node_at node lines ∷ image

-- the nodes of all node lines, each with the content of the lines after its own
unfoldable pub nodes_at : List (List ℕ) → Image
nodes_at [] = []
nodes_at (line ∷ lines) = with_node_at (node_of_line line) lines (nodes_at lines)
