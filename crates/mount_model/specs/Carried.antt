-- What a call may carry.
use Rattle.std.specs.Prelude.{◌≢◌, ◌≤◌, ℕ, List, [], ◌∷◌, length, All, Contains}
use Rattle.byte_words.specs.Bytes.{AreBytes}
use Rattle.mount_limits.specs.declared.TheConstants.{MAX_PARTS, MAX_PART_BYTES}
use Rattle.mount_model.specs.declared.limits.TheConstants.{MAX_TARGET_BYTES}

-- at least one byte and at most `most`
abbrev pub HasLength : List ℕ → ℕ → Type 0
HasLength bytes most = (1 ≤ length bytes) × (length bytes ≤ most)

-- 1 to 1,000 bytes, no slash and no NUL among them, and neither `.` nor `..`
pub record IsPart (part : List ℕ) : Type 0 where
  pub bytes : AreBytes part
  pub size : HasLength part MAX_PART_BYTES
  pub slash : ¬ Contains part 47
  pub nul : ¬ Contains part 0
  pub dot : part ≢ 46 ∷ []
  pub dots : part ≢ 46 ∷ 46 ∷ []

-- at most 32 parts
pub record IsPath (path : List (List ℕ)) : Type 0 where
  pub short : length path ≤ MAX_PARTS
  pub parts : All IsPart path

-- 1 to 1,000 bytes without NUL
pub record IsTarget (target : List ℕ) : Type 0 where
  pub bytes : AreBytes target
  pub size : HasLength target MAX_TARGET_BYTES
  pub nul : ¬ Contains target 0

-- at most `most` bytes
abbrev pub AreFewBytes : List ℕ → ℕ → Type 0
AreFewBytes bytes most = AreBytes bytes × (length bytes ≤ most)
