-- How a passphrase is stretched, as a record can spell it.
use Rattle.std.specs.Prelude.{ℕ, ◌≡◌, List, Ok}
use Rattle.argon_kdf.specs.CostLimits.{checked_costs}
use Rattle.argon_kdf.specs.declared.costs.Costs.{Costs}
use Rattle.byte_words.specs.Bytes.{AreBytesOfLength}

-- costs in their ranges, and a salt of 16 bytes
abbrev pub IsStretching : Costs × List ℕ → Type 0
IsStretching (costs, salt) = (checked_costs costs ≡ Ok tt) × AreBytesOfLength 16 salt
