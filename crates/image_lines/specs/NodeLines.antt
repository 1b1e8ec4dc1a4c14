-- Which line of a node is allowed as the root or after other nodes, and the place after it.
use Rattle.std.specs.Prelude.{ℕ, ◌==◌, ◌&&◌, Bool, true, false, nat_lt, List, [], is_some, is_none, Option}
use Rattle.std.specs.Option.{option_map}
use Rattle.image_lines.specs.declared.node_line.NodeKind.{NodeKind}
use Rattle.image_lines.specs.declared.node_line.NodeKind.TheVariants.{Dir, File, Link}
use Rattle.image_lines.specs.declared.node_line.NodeLine.{NodeLine}
use Rattle.image_lines.specs.declared.place.Place.{Place}
use Rattle.image_lines.specs.declared.place.Place.TheVariants.{InDir, Behind}
use Rattle.image_lines.specs.NodeRules.{blocks_for}
use Rattle.image_lines.specs.Lines.{node_of_line}
use Rattle.image_lines.specs.Words.{◌>>=◌, passing}

-- the place after the line of a node: in a directory with no entry yet, after a file with its blocks still
-- to come, or after a link
abbrev pub place_after : ℕ → Bool → NodeKind → Place
place_after number under_policy Dir = InDir number under_policy []
place_after number under_policy (File size) = Behind number (blocks_for size)
place_after number under_policy (Link target) = Behind number 0

abbrev pub after_node : NodeLine → Place
after_node node = place_after node.number (is_some node.context) node.kind

abbrev pub is_dir : NodeKind → Bool
is_dir Dir = true
is_dir (File size) = false
is_dir (Link target) = false

-- node 0, a directory without context
abbrev pub is_root : NodeLine → Bool
is_root node = (node.number == 0) && (is_none node.context && is_dir node.kind)

-- the line of a node of a greater number
abbrev pub next_node : ℕ → List ℕ → Option Place
next_node number line =
    option_map after_node (node_of_line line >>= passing (λ node. nat_lt number node.number))
