-- The blocks of all files, if the disk agrees with a map of other nodes.
use Rattle.std.specs.Prelude.{◌≡◌, ℕ, length}
use Rattle.std.specs.List.{sum_by}
use Rattle.number_map.specs.Numbered.{NumberedValues, AgreesUnder, entries}
use Rattle.disk_tree.specs.Nodes.{blocks_of}
use Rattle.disk_tree.specs.DiskTree.{Disk, block_total}
use Rattle.disk_tree.specs.declared.node.StoredNode.{StoredNode}

-- their number is the sum over the other nodes of the number of blocks in which each is stored
abbrev pub TotalsAgree : {V : Type 0} → (V → StoredNode) → (V → ℕ) → Type 0
TotalsAgree {V} stored count = (nodes : NumberedValues V) (disk : Disk) → AgreesUnder stored nodes disk →
    ((v : V) → length (blocks_of (stored v).body) ≡ count v)
    → block_total disk ≡ sum_by (λ e. count e.1) (entries nodes)
