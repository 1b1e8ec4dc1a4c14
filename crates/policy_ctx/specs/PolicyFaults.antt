-- The first fault of bytes that are no policy of version 2.
use Rattle.std.specs.Prelude.{ℕ, Bool, List, length, Option, Some, None}
use Rattle.std.specs.Prelude.{slice_index, ◌==◌, ◌&&◌, ◌||◌, nat_le, not, if◌then◌else◌}
use Rattle.policy_ctx.specs.declared.fault.CtxFault.{CtxFault}
use Rattle.policy_ctx.specs.declared.fault.CtxFault.TheVariants.{Length, Version, Modes}
use Rattle.policy_ctx.specs.declared.fault.CtxFault.TheVariants.{Flags, Unit, Reserved}

-- a padding, with flag 8 or without it, and no other flag
abbrev pub are_flags : ℕ → Bool
are_flags flags = nat_le flags 3 || (nat_le 8 flags && nat_le flags 11)

-- a unit is a block, or has 2^9 to 2^12 bytes
abbrev pub is_unit_log2 : ℕ → Bool
is_unit_log2 log = (log == 0) || (nat_le 9 log && nat_le log 12)

-- the first fault of the eight bytes before the identifier
abbrev pub header_fault : List ℕ → Option CtxFault
header_fault b =
    if not (slice_index b 0 == 2) then Some Version else
    if not ((slice_index b 1 == 1) && (slice_index b 2 == 4)) then Some Modes else
    if not (are_flags (slice_index b 3)) then Some Flags else
    if not (is_unit_log2 (slice_index b 4)) then Some Unit else
    if not ((slice_index b 5 == 0) && ((slice_index b 6 == 0) && (slice_index b 7 == 0)))
    then Some Reserved else
    None

-- the first fault of the bytes as a policy, if they are none
abbrev pub policy_fault : List ℕ → Option CtxFault
policy_fault b = if length b == 24 then header_fault b else Some Length
