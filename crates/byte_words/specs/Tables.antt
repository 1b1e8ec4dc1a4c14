-- A test of every place of a table, which computes.
use Rattle.std.specs.Prelude.{ℕ, zero, suc, Bool, true, ◌&&◌}

-- the test holds at the given number of places, from the first on
unfoldable pub all_from : (ℕ → Bool) → ℕ → ℕ → Bool
all_from test from zero = true
all_from test from (suc n) = test from && all_from test (suc from) n
