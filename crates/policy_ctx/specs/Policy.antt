-- The 24 bytes of a policy of version 2, as Linux lays out its `fscrypt_policy_v2`.
use Rattle.std.specs.Prelude.{ℕ, ◌+◌, Bool, List, ◌∷◌, if◌then◌else◌}
use Rattle.policy_ctx.specs.declared.policy.Pad.{Pad}
use Rattle.policy_ctx.specs.declared.policy.Pad.TheVariants.{P4, P8, P16, P32}
use Rattle.policy_ctx.specs.declared.policy.Unit.{Unit as DataUnit}
use Rattle.policy_ctx.specs.declared.policy.Unit.TheVariants.{Block, U512, U1024, U2048, U4096}
use Rattle.policy_ctx.specs.declared.policy.Policy.{Policy}

-- how many bytes a stored name is padded to
abbrev pub pad_size : Pad → ℕ
pad_size P4 = 4
pad_size P8 = 8
pad_size P16 = 16
pad_size P32 = 32

-- the flags of a padding
abbrev pub pad_flags : Pad → ℕ
pad_flags P4 = 0
pad_flags P8 = 1
pad_flags P16 = 2
pad_flags P32 = 3

-- how many bytes of contents are encrypted as one: a block has 4,096
abbrev pub unit_bytes : DataUnit → ℕ
unit_bytes Block = 4096
unit_bytes U512 = 512
unit_bytes U1024 = 1024
unit_bytes U2048 = 2048
unit_bytes U4096 = 4096

-- the byte of a unit: the logarithm to base 2 of its size, or 0 if it is a block
abbrev pub unit_log2 : DataUnit → ℕ
unit_log2 Block = 0
unit_log2 U512 = 9
unit_log2 U1024 = 10
unit_log2 U2048 = 11
unit_log2 U4096 = 12

-- the flags byte: the padding in its two low bits, and flag 8 (IV_INO_LBLK_64) for a key for each mode
abbrev pub flags_of : Pad → Bool → ℕ
flags_of pad by_mode = pad_flags pad + (if by_mode then 8 else 0)

-- version 2, contents mode 1 (AES-256-XTS), names mode 4 (AES-256-CBC-CTS), the flags, the data
-- unit, three reserved bytes, the key's identifier
abbrev pub policy_bytes : Policy → List ℕ
policy_bytes p = 2 ∷ 1 ∷ 4 ∷ flags_of p.pad p.by_mode ∷ unit_log2 p.unit ∷ 0 ∷ 0 ∷ 0 ∷ p.id.0
