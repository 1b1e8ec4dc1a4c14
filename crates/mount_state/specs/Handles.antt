-- The open handles, and how many each caller ever opened; what each call makes of them.
use Rattle.std.specs.Prelude.{◌≡◌, ℕ, ◌+◌, Bool, [], ◌∷◌, ◌++◌, length, nat_le, ◌||◌, ◌==◌, if◌then◌else◌}
use Rattle.std.specs.List.{count_by}
use Rattle.std.specs.FinMap as map
use Rattle.number_map.specs.Numbered.{NumberedValues, insert}
use Rattle.mount_model.specs.PlainMount.{HandleList}
use Rattle.mount_model.specs.OpenHandles.{opens_of, without_handle}
use Rattle.mount_model.specs.declared.limits.TheConstants.{MAX_HANDLES, MAX_OPENS}

pub record Handles : Type 0 where
  -- in the order of their opening
  pub live : HandleList
  -- how many handles each caller ever opened; no entry means none
  pub opened : NumberedValues ℕ

abbrev pub no_handles : Handles
no_handles = record { live = []; opened = map.empty }

-- a new handle of the caller: its number is how many the caller opened before
abbrev pub with_handle : Handles → ℕ → ℕ → Handles
with_handle handles caller node = record {
  live = handles.live ++ record { caller = caller; number = opens_of handles.opened caller; node = node }
      ∷ [];
  opened = insert handles.opened caller (opens_of handles.opened caller + 1);
}

-- the others; what was opened stays counted
abbrev pub without : Handles → ℕ → ℕ → Handles
without handles caller number = record handles { live = without_handle caller number handles.live }

-- MAX_HANDLES handles are open, or the caller opened MAX_OPENS
abbrev pub is_full : Handles → ℕ → Bool
is_full handles caller =
    nat_le MAX_HANDLES (length handles.live) || nat_le MAX_OPENS (opens_of handles.opened caller)

-- how many handles are on nodes that pass the test, and on this node
abbrev pub users : (ℕ → Bool) → HandleList → ℕ
users test live = count_by (λ h. test h.node) live

abbrev pub handles_on : HandleList → ℕ → ℕ
handles_on live node = users (λ n. n == node) live

-- of all handles one went, on this node
abbrev pub LosesOne : HandleList → HandleList → ℕ → Type 0
LosesOne old new node = (test : ℕ → Bool) → users test new + (if test node then 1 else 0) ≡ users test old
