use Rattle.std.proofs.Common.{◌≡◌, ◌≤◌, ◌+◌, ◌-◌, ◌/◌, ◌<◌, [], length}
use Rattle.std.specs.Prelude.{vec_capacity}
use Rattle.argon_kdf.specs.Shapes.{place, shape}
use Rattle.argon_kdf.specs.References.{address_block}
use Rattle.argon_kdf.specs.Tables.{Table}
use Rattle.argon_kdf.specs.Filling.{with_places}
use Rattle.argon_kdf.specs.Slices.{slices_of}
use Rattle.argon_kdf.specs.Segments.{BeginsSegment}
use Rattle.argon_kdf.proofs.first_pass.grow_segment.Given as goal

abbrev pub invariant-places : goal.invariant-places
invariant-places l = record {
  long : length l.segment.items ≡ l.index;
  room : l.layout.width ≤ vec_capacity l.segment;
  addressed : l.slice < 2 → 0 < l.index
      → l.addresses ≡ address_block (shape l.layout) (place 0 l.slice l.lane l.index) ((l.index - 1) / 128 + 1);
  filled : (table : Table) → BeginsSegment (shape l.layout) (slices_of l.memory) [] table (place 0 l.slice l.lane 0)
      → BeginsSegment (shape l.layout) (slices_of l.memory) l.segment.items
      (with_places (shape l.layout) l.h0 table 0 l.slice l.lane l.index) (place 0 l.slice l.lane l.index);
}
