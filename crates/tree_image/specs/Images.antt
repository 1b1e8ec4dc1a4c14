-- The image of a disk, and that of a mount: of the root and of each node that has a name, by rising
-- number.
use Rattle.std.specs.Prelude.{ℕ, List, map, filter}
use Rattle.number_map.specs.Numbered.{entries}
use Rattle.plain_tree.specs.Nodes.{Node}
use Rattle.disk_tree.specs.DiskTree.{Disk}
use Rattle.disk_tree.specs.declared.node.StoredNode.{StoredNode}
use Rattle.mount_model.specs.PlainMount.{PlainMount, Raws}
use Rattle.mount_state.specs.Stored.{stored_node}
use Rattle.image_lines.specs.Image.{Image, ImageNode}
use Rattle.tree_image.specs.Order.{body_in_order}

-- the image of a stored node: its number, the bytes of its context, and its body, with the entries of a
-- directory in order
abbrev pub image_node : ℕ × StoredNode → ImageNode
image_node e = record { number = e.0; context = e.1.context; body = body_in_order e.1.body }

-- a node that is open but has no name is left out
abbrev pub image_from : List (ℕ × StoredNode) → Image
image_from nodes = map image_node (filter (λ e. e.1.named) nodes)

-- of the nodes on a disk
abbrev pub image_of : Disk → Image
image_of disk = image_from (entries disk)

-- node n of a mount in its stored form
abbrev pub stored_entry : Raws → ℕ × Node → ℕ × StoredNode
stored_entry raws e = (e.0, stored_node raws e.0 e.1)

-- of a mount: of its nodes in their stored form
abbrev pub mount_image : PlainMount → Image
mount_image m = map (λ e. image_node (stored_entry m.raws e)) (filter (λ e. e.1.named) (entries m.nodes))
