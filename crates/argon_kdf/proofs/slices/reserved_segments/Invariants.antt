use Rattle.std.proofs.Common.{◌≡◌, [], length}
use Rattle.std.specs.Prelude.{All, vec_capacity}
use Rattle.argon_kdf.proofs.slices.reserved_segments.Given as goal

abbrev pub invariant-lanes : goal.invariant-lanes
invariant-lanes l = record {
  lanes : length l.segments.items ≡ l.counter;
  empty : All (λ v. v.items ≡ []) l.segments.items;
  room : All (λ v. vec_capacity v ≡ l.layout.width) l.segments.items;
}
