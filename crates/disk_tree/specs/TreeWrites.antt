-- The value of a tree after a borrow: a `&mut` to the bytes of a block is returned.
use Rattle.std.specs.Prelude.{ℕ, List}
use Rattle.std.specs.Borrow.{Lends, Fml, MutBor, Array, u8}
use Rattle.number_map.specs.Numbered.{changed}
use Rattle.disk_tree.specs.Blocks.{with_block}
use Rattle.disk_tree.specs.Nodes.{on_body, with_blocks}
use Rattle.disk_tree.specs.DiskTree.{Disk}
use Rattle.disk_tree.specs.contracts.tree.DiskTree.{the_row}

-- once the borrow r ends, the file's block is what was written through r, and all else stays
abbrev pub WritesFileBlock : MutBor Disk → ℕ → ℕ → MutBor (List ℕ) → Fml
WritesFileBlock s file index r =
    Lends the_row (Array u8 0) s r (λ w. changed s.now file (on_body (with_blocks (with_block index w))))
