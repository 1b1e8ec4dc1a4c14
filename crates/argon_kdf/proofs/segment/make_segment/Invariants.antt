use Rattle.std.proofs.Common.{◌≡◌, ℕ, List, length}
use Rattle.argon_kdf.specs.Shapes.{place, shape}
use Rattle.argon_kdf.specs.Tables.{Table}
use Rattle.argon_kdf.specs.Filling.{with_places}
use Rattle.argon_kdf.specs.Slices.{slices_of}
use Rattle.argon_kdf.specs.Segments.{BeginsSegment}
use Rattle.argon_kdf.proofs.segment.make_segment.Given as goal

abbrev pub invariant-places : goal.invariant-places
invariant-places l = record {
  long : length l.segment ≡ l.layout.width;
  filled : (h0 : List ℕ) (table : Table) → BeginsSegment (shape l.layout) (slices_of l.memory) l.fn.segment table
      (place l.pass l.slice l.lane 0)
      → BeginsSegment (shape l.layout) (slices_of l.memory) l.segment
      (with_places (shape l.layout) h0 table l.pass l.slice l.lane l.index)
      (place l.pass l.slice l.lane l.index);
}
