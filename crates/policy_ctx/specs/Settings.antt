-- The numbers by which a record or a script names a padding and a unit.
use Rattle.std.specs.Prelude.{ℕ, Option, Some, None, ◌==◌, if◌then◌else◌}
use Rattle.policy_ctx.specs.declared.policy.Pad.{Pad}
use Rattle.policy_ctx.specs.declared.policy.Pad.TheVariants.{P4, P8, P16, P32}
use Rattle.policy_ctx.specs.declared.policy.Unit.{Unit as DataUnit}
use Rattle.policy_ctx.specs.declared.policy.Unit.TheVariants.{Block, U512, U1024, U2048, U4096}

-- the padding to this many bytes
abbrev pub pad_of_size : ℕ → Option Pad
pad_of_size size =
    if size == 4 then Some P4 else
    if size == 8 then Some P8 else
    if size == 16 then Some P16 else
    if size == 32 then Some P32 else
    None

-- the unit of 2^log bytes; 0 is a block
abbrev pub unit_of_log2 : ℕ → Option DataUnit
unit_of_log2 log =
    if log == 0 then Some Block else
    if log == 9 then Some U512 else
    if log == 10 then Some U1024 else
    if log == 11 then Some U2048 else
    if log == 12 then Some U4096 else
    None
