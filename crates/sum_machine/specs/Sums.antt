-- Histories of a machine that adds up numbers: each reply is the sum so far, modulo 2 ^ 64.
use Rattle.std.specs.Prelude.{◌≡◌, ℕ, ◌+◌, ◌%◌, ◌^◌, List, [], ◌∷◌}
use Rattle.call_history.specs.declared.entry.Entry.{Entry}
use Rattle.call_history.specs.Entries.{History}

-- the sum after these calls, from one before
abbrev pub sum_after : ℕ → History ℕ ℕ → ℕ
sum_after sum [] = sum
sum_after sum (e ∷ es) = sum_after ((sum + e.call) % 2 ^ 64) es

-- each reply is the sum up to and with its call
abbrev pub HasSums : ℕ → History ℕ ℕ → Type 0
HasSums sum [] = Unit {0}
HasSums sum (e ∷ es) = (e.reply ≡ (sum + e.call) % 2 ^ 64) × HasSums e.reply es
