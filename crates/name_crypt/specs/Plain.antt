-- Names and targets, as they are read and as they are stored.
use Rattle.std.specs.Prelude.{ℕ, List, length, ◌≤◌, Contains}
use Rattle.name_crypt.specs.declared.limits.TheConstants.{MAX_NAME_BYTES, MIN_STORED_BYTES}

-- a name or a symlink's target: 1 to 255 bytes, none of them NUL
abbrev pub IsPlain : List ℕ → Type 0
IsPlain bytes = (1 ≤ length bytes) × (length bytes ≤ MAX_NAME_BYTES) × ¬ Contains bytes 0

-- the length of a name or a target after encryption: 16 to 255 bytes
abbrev pub IsStored : List ℕ → Type 0
IsStored bytes = (MIN_STORED_BYTES ≤ length bytes) × (length bytes ≤ MAX_NAME_BYTES)
