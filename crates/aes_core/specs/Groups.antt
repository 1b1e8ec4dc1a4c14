-- The key schedule by groups of four words, each in one vector, a word a column. These definitions
-- describe the code and not the standard.
use Rattle.std.specs.Prelude.{◌≡◌, ℕ, zero, suc, ◌-◌, ◌*◌, List, bit_xor, slice_index, take}
use Rattle.aes_core.specs.RoundKeys.{key_schedule}
use Rattle.aes_core.specs.Steps.{cell, state_of}

-- the last column, in each column
unfoldable pub last_column : List ℕ → List ℕ
last_column s = state_of (λ r c. cell s r 3)

-- the sum of a row as far as a column
unfoldable pub row_sum : List ℕ → ℕ → ℕ → ℕ
row_sum s r zero = cell s r 0
row_sum s r (suc c) = bit_xor (cell s r (suc c)) (row_sum s r c)

-- in each column the sum of the columns up to it
unfoldable pub column_sums : List ℕ → List ℕ
column_sums s = state_of (row_sum s)

-- a word, in each column
unfoldable pub in_each_column : List ℕ → List ℕ
in_each_column word = state_of (λ r c. slice_index word r)

-- the first n groups are those of the key's schedule, two of which are the key
abbrev pub HoldsGroups : List ℕ → List ℕ → ℕ → Type 0
HoldsGroups keys key n = take (16 * n) keys ≡ key_schedule key (4 * n - 8)
