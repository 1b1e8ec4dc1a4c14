-- Lists of numbers that are bytes.
use Rattle.std.specs.Prelude.{◌≡◌, ℕ, ◌<◌, List, length, slice_index}

-- every number is below 256
abbrev pub AreBytes : List ℕ → Type 0
AreBytes xs = (i : ℕ) → slice_index xs i < 256

-- n bytes
abbrev pub AreBytesOfLength : ℕ → List ℕ → Type 0
AreBytesOfLength n xs = (length xs ≡ n) × AreBytes xs
