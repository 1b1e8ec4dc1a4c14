use Rattle.std.proofs.Common.{◌≡◌, ℕ, ◌≤◌, ◌<◌, length, slice_index_or}
use Rattle.argon_kdf.specs.Shapes.{place, shape}
use Rattle.argon_kdf.specs.Tables.{empty_table}
use Rattle.argon_kdf.specs.Filling.{with_slices}
use Rattle.argon_kdf.specs.Slices.{HasSlices, slices_of}
use Rattle.argon_kdf.specs.SeenBlocks.{block_at}
use Rattle.argon_kdf.specs.Memory.{Shows}
use Rattle.argon_kdf.specs.Segments.{HasSegmentSpace}
use Rattle.argon_kdf.proofs.first_pass.first_pass.Given as goal

abbrev pub invariant-slices : goal.invariant-slices
invariant-slices g l = record {
  count : length l.rooms ≡ 4;
  rooms : (n : ℕ) (d : _) → l.slice ≤ n → n < 4 → HasSegmentSpace (shape l.layout) (slice_index_or l.rooms n d).items;
  has : HasSlices (shape l.layout) l.slice (slices_of l.memory.items);
  filled : Shows (shape l.layout) (block_at (shape l.layout) (slices_of l.memory.items))
      (with_slices (shape l.layout) l.h0 empty_table 0 l.slice) (place 0 l.slice 0 0);
}
