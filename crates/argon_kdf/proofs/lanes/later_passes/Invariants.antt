use Rattle.std.proofs.Common.{ℕ, List}
use Rattle.argon_kdf.specs.Shapes.{place, shape}
use Rattle.argon_kdf.specs.Slices.{IsWhole, slices_of}
use Rattle.argon_kdf.specs.SeenBlocks.{block_at}
use Rattle.argon_kdf.specs.Filling.{with_passes}
use Rattle.argon_kdf.specs.Memory.{Shows}
use Rattle.argon_kdf.proofs.lanes.later_passes.Given as goal

abbrev pub invariant-passes : goal.invariant-passes
invariant-passes g l = record {
  whole : IsWhole (shape l.layout) (slices_of l.memory);
  filled : (h0 : List ℕ) → Shows (shape l.layout) (block_at (shape l.layout) (slices_of l.fn.memory))
      (with_passes (shape l.layout) h0 1) (place 1 0 0 0)
      → Shows (shape l.layout) (block_at (shape l.layout) (slices_of l.memory))
      (with_passes (shape l.layout) h0 l.pass) (place l.pass 0 0 0);
}
