-- The blocks that the contents of files need, and whether that many are free.
use Rattle.std.specs.Prelude.{ℕ, ◌-◌, Bool, List, length, nat_lt}
use Rattle.std.specs.List.{sum_by}
use Rattle.std.specs.Int.{div_ceil}
use Rattle.number_map.specs.Numbered.{entries}
use Rattle.plain_tree.specs.Nodes.{Nodes, contents_of}
use Rattle.mount_limits.specs.declared.TheConstants.{BLOCK_SIZE, MAX_BLOCKS}
use Rattle.mount_model.specs.PlainMount.{PlainMount}

-- the number of blocks of contents; the last one may be partly filled
abbrev pub block_count : List ℕ → ℕ
block_count contents = div_ceil (length contents) BLOCK_SIZE

-- the blocks of all files
unfoldable pub block_total : Nodes → ℕ
block_total nodes = sum_by (λ e. block_count (contents_of e.1.body)) (entries nodes)

-- the contents would need more blocks than are free beside those that they have
abbrev pub lacks_blocks : PlainMount → List ℕ → List ℕ → Bool
lacks_blocks m old new = nat_lt (MAX_BLOCKS - block_total m.nodes) (block_count new - block_count old)
