-- The value of a body after a borrow: a `&mut` to the bytes of a block is returned.
use Rattle.std.specs.Prelude.{ℕ, List}
use Rattle.std.specs.Borrow.{Lends, Fml, MutBor, Array, u8}
use Rattle.disk_tree.specs.Blocks.{with_block}
use Rattle.disk_tree.specs.Nodes.{with_blocks}
use Rattle.disk_tree.specs.declared.node.Body.{Body}
use Rattle.disk_tree.specs.contracts.node.Body.{the_row}

-- once the borrow r ends, the block at the index is what was written through r
abbrev pub WritesBodyBlock : MutBor Body → ℕ → MutBor (List ℕ) → Fml
WritesBodyBlock s index r = Lends the_row (Array u8 0) s r (λ w. with_blocks (with_block index w) s.now)
