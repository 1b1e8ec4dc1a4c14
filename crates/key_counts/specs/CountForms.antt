-- How a count is stored.
use Rattle.std.specs.Prelude.{ℕ, Option, Some, None, ◌==◌, if◌then◌else◌}

-- the stored form of a count; 0 is not stored
abbrev pub count_or_none : ℕ → Option ℕ
count_or_none n = if n == 0 then None else Some n
