use Rattle.std.proofs.Common.{◌≡◌, length}
use Rattle.std.specs.Prelude.{All}
use Rattle.argon_kdf.specs.Shapes.{shape}
use Rattle.argon_kdf.specs.Segments.{HasSegmentSpace}
use Rattle.argon_kdf.proofs.slices.reserved_slices.Given as goal

abbrev pub invariant-slices : goal.invariant-slices
invariant-slices l = record {
  count : length l.rooms.items ≡ l.counter;
  rooms : All (λ s. HasSegmentSpace (shape l.layout) s.items) l.rooms.items;
}
