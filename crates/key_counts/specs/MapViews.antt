-- The finite map that an ordered map of the library is seen as.
use Rattle.std.specs.Prelude.{List, map}
use Rattle.std.specs.declared.cmp.Ordering.{Ordering}
use Rattle.std.specs.FinMap.{FinMap, from_entries}

-- by the order of the keys, with f of each value
abbrev pub map_by_order : {K V X : Type 0} → (R : K → K → Ordering) → (V → X) → List (K × V) → FinMap R X
map_by_order {K} {V} {X} R f entries = from_entries (map {B = K × X} (λ (e : K × V). (e.0, f e.1)) entries)
