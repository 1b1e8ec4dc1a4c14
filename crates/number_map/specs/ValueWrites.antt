-- The value of a `NumberMap` after a borrow: a `&mut` to one of its values is returned.
use Rattle.std.specs.Prelude.{ℕ, Option}
use Rattle.std.specs.Borrow.{LendsIf, Fml, RattleType, MutBor}
use Rattle.number_map.specs.Numbered.{NumberedValues, insert}
use Rattle.number_map.specs.contracts.NumberMap.{the_row}

-- once the borrow r ends, the number has the last value written through r, and at `None` the map is as before
abbrev pub WritesValue : (T : RattleType) → MutBor (NumberedValues T.Denot) → ℕ → Option (MutBor T.Denot)
    → Fml
WritesValue T s number r = LendsIf (the_row T) T s r (insert s.now number) s.now
