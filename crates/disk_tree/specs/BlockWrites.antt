-- The value of a block and of a list of blocks after a borrow: a `&mut` to the bytes of a block is
-- returned.
use Rattle.std.specs.Prelude.{ℕ, List}
use Rattle.std.specs.Borrow.{Lends, Fml, MutBor, Array, u8}
use Rattle.disk_tree.specs.Blocks.{written_over_front, with_block}
use Rattle.disk_tree.specs.contracts.blocks.Block as block
use Rattle.disk_tree.specs.contracts.blocks.BlockList as blocks

-- once the borrow r ends, the block is what was written through r
abbrev pub WritesBlock : MutBor (List ℕ) → MutBor (List ℕ) → Fml
WritesBlock s r = Lends block.the_row (Array u8 0) s r (written_over_front s.now)

-- the same of the block at the index; the others stay
abbrev pub WritesOneBlock : MutBor (List (List ℕ)) → ℕ → MutBor (List ℕ) → Fml
WritesOneBlock s index r = Lends blocks.the_row (Array u8 0) s r (λ w. with_block index w s.now)
