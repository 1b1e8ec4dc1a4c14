-- The pseudorandom numbers by which commands are chosen: a linear congruential generator modulo 2^64.
use Rattle.std.specs.Prelude.{ℕ, zero, suc, ◌+◌, ◌*◌, ◌/◌, ◌%◌, ◌^◌}

-- the number after x
abbrev pub next : ℕ → ℕ
next x = (x * 6364136223846793005 + 1442695040888963407) % 2 ^ 64

-- the number `count` steps after x
unfoldable pub number_after : ℕ → ℕ → ℕ
number_after zero x = x
number_after (suc count) x = number_after count (next x)

-- the value of a number: its upper 31 bits
abbrev pub upper_31_bits : ℕ → ℕ
upper_31_bits x = x / 2 ^ 33
