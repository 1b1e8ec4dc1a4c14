-- How many users mode keys have, and what users that come or go make of one.
use Rattle.std.specs.Prelude.{◌≡◌, ℕ, ◌+◌, ◌-◌, ◌<◌, ◌≤◌, ◌^◌, ◌==◌, Option, Some, None, if◌then◌else◌}
use Rattle.std.specs.Option.{option_map_or}
use Rattle.std.specs.FinMap as map
use Rattle.policy_ctx.specs.declared.policy.KeyId.{KeyId}
use Rattle.fsc_keys.specs.declared.file_keys.FileKey.{FileKey}
use Rattle.key_ring.specs.declared.mode_key.ModeKey.{ModeKey}
use Rattle.key_ring.specs.Modes.{ModeMap, Modes}

-- how many users the mode key of this identifier has; 0 if there is none
abbrev pub users_in : ModeMap → KeyId → ℕ
users_in those id = option_map_or (λ mode. mode.users) (map.get those id) 0

-- how many users the identifier has, over both kinds
abbrev pub users_of : Modes → KeyId → ℕ
users_of modes id = users_in modes.contents id + users_in modes.names id

-- more users: a key that is held stays, else this one is added
abbrev pub more_users : FileKey → ℕ → Option ModeKey → ModeKey
more_users key users None = record { key = key; users = users }
more_users key users (Some mode) = record mode { users = mode.users + users }

abbrev pub with_users : ModeMap → KeyId → FileKey → ℕ → ModeMap
with_users those id key users = map.insert those id (more_users key users (map.get those id))

-- one user less: with the last one the key goes
abbrev pub one_user_less : ModeMap → KeyId → Option ModeKey → ModeMap
one_user_less those id None = those
one_user_less those id (Some mode) =
    if mode.users == 1 then map.remove those id
    else map.insert those id (record mode { users = mode.users - 1 })

abbrev pub without_user : ModeMap → KeyId → ModeMap
without_user those id = one_user_less those id (map.get those id)

-- a mode key is held only if it has users
abbrev pub IsUsed : ModeMap → Type 0
IsUsed those = (id : KeyId) (mode : ModeKey) → map.get those id ≡ Some mode → 1 ≤ mode.users

-- that holds of both kinds, and the users of an identifier fit their number
pub record AreUsed (modes : Modes) : Type 0 where
  pub contents_used : IsUsed modes.contents
  pub names_used : IsUsed modes.names
  pub fit : (id : KeyId) → users_of modes id < 2 ^ 32
