use Rattle.std.proofs.Common.{◌≡◌, ◌+◌, ◌-◌, ◌/◌, ◌<◌}
use Rattle.argon_kdf.specs.Shapes.{place, shape}
use Rattle.argon_kdf.specs.References.{address_block}
use Rattle.argon_kdf.specs.Tables.{Table}
use Rattle.argon_kdf.specs.Filling.{with_places}
use Rattle.argon_kdf.specs.Memory.{IsFilledTo}
use Rattle.argon_kdf.proofs.fill.fill_segment.Given as goal

abbrev pub invariant-places : goal.invariant-places
invariant-places l = record {
  addressed : l.pass ≡ 0 → l.slice < 2 → 0 < l.index
      → l.addresses ≡ address_block (shape l.layout) (place l.pass l.slice l.lane l.index)
      ((l.index - 1) / 128 + 1);
  filled : (table : Table) → IsFilledTo (shape l.layout) l.fn.memory table (place l.pass l.slice l.lane 0)
      → IsFilledTo (shape l.layout) l.memory (with_places
      (shape l.layout) l.h0 table l.pass l.slice l.lane l.index)
      (place l.pass l.slice l.lane l.index);
}
