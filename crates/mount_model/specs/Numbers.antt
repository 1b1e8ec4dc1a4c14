-- The numbers of states and refusals.
use Rattle.std.specs.Prelude.{ℕ}
use Rattle.mount_model.specs.declared.reply.KeyState.{KeyState}
use Rattle.mount_model.specs.declared.reply.KeyState.TheVariants.{Absent, Present, Incomplete}
use Rattle.mount_model.specs.declared.reply.Refusal.{Refusal}
use Rattle.mount_model.specs.declared.reply.Refusal.TheVariants as refusal

-- FSCRYPT_KEY_STATUS_ABSENT, _PRESENT and _INCOMPLETELY_REMOVED of Linux's linux/fscrypt.h
abbrev pub state_number : KeyState → ℕ
state_number Absent = 1
state_number Present = 2
state_number Incomplete = 3

-- the mount's own numbers, the same in every version
abbrev pub refusal_number : Refusal → ℕ
refusal_number refusal.NoKey = 1
refusal_number refusal.Access = 2
refusal_number refusal.Quota = 3
refusal_number refusal.Inval = 4
refusal_number refusal.Exists = 5
refusal_number refusal.NotFound = 6
refusal_number refusal.NotDir = 7
refusal_number refusal.IsDir = 8
refusal_number refusal.NotEmpty = 9
refusal_number refusal.XDev = 10
refusal_number refusal.NoData = 11
refusal_number refusal.BadHandle = 12
refusal_number refusal.NameTooLong = 13
refusal_number refusal.TooBig = 14
refusal_number refusal.NoSpace = 15
refusal_number refusal.NoKeyClash = 16
refusal_number (refusal.Changed version) = 17
refusal_number refusal.NoMemory = 18
