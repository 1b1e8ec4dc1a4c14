-- Finite maps from numbers to values, and their changes.
use Rattle.std.specs.Prelude.{◌≡◌, ℕ, Option, Some, None, option_map}
use Rattle.std.specs.FinMap.{FinMap}
use Rattle.std.specs.Ordering.{nat_cmp}
pub use Rattle.std.specs.FinMap.{empty, get, contains_key, insert, remove, len, entries, same_map}

-- a finite map from numbers to values of V
abbrev pub NumberedValues : Type 0 → Type 0
NumberedValues V = FinMap nat_cmp V

-- the map with f of the given value at the number; at `None` the map itself
abbrev pub changed_to : {V : Type 0} → (V → V) → NumberedValues V → ℕ → Option V → NumberedValues V
changed_to f m number None = m
changed_to f m number (Some value) = insert m number (f value)

-- the map with f of the value at the number; a number without a value stays without one
unfoldable pub changed : {V : Type 0} → NumberedValues V → ℕ → (V → V) → NumberedValues V
changed m number f = changed_to f m number (get m number)

-- the one map has f of what the other has, number by number
abbrev pub AgreesUnder : {V W : Type 0} → (V → W) → NumberedValues V → NumberedValues W → Type 0
AgreesUnder f plain stored = (number : ℕ) → get stored number ≡ option_map f (get plain number)
