use Rattle.std.proofs.Common.{ℕ, List}
use Rattle.argon_kdf.specs.Shapes.{place, shape}
use Rattle.argon_kdf.specs.Slices.{IsWhole, slices_of}
use Rattle.argon_kdf.specs.SeenBlocks.{block_at}
use Rattle.argon_kdf.specs.Tables.{Table}
use Rattle.argon_kdf.specs.Filling.{with_slices}
use Rattle.argon_kdf.specs.Memory.{Shows}
use Rattle.argon_kdf.proofs.lanes.fill_pass.Given as goal

abbrev pub invariant-slices : goal.invariant-slices
invariant-slices g l = record {
  whole : IsWhole (shape l.layout) (slices_of l.memory);
  filled : (h0 : List ℕ) (table : Table)
      → Shows (shape l.layout) (block_at (shape l.layout) (slices_of l.fn.memory)) table (place l.pass 0 0 0)
      → Shows (shape l.layout) (block_at (shape l.layout) (slices_of l.memory))
      (with_slices (shape l.layout) h0 table l.pass l.slice) (place l.pass l.slice 0 0);
}
