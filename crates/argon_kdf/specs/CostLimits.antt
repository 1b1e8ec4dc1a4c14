-- Which costs are accepted.
use Rattle.std.specs.Prelude.{◌*◌, Result, Ok, Err, if◌then◌else◌}
use Rattle.std.specs.Int.{is_in_range}
use Rattle.argon_kdf.specs.declared.limits.TheConstants.{MIN_KIB_PER_LANE, MAX_KIB, MAX_LANES, MAX_PASSES}
use Rattle.argon_kdf.specs.declared.costs.Costs.{Costs}
use Rattle.argon_kdf.specs.declared.costs.CostFault.{CostFault}
use Rattle.argon_kdf.specs.declared.costs.CostFault.TheVariants.{Passes, Lanes, Kib}

-- 1 to 16 passes, then 1 to 8 lanes, then 8 KiB a lane to 65,536 KiB: the fault is the first that is out of
-- its range
abbrev pub checked_costs : Costs → Result (Unit {0}) CostFault
checked_costs costs =
    if is_in_range 1 MAX_PASSES costs.passes then
    if is_in_range 1 MAX_LANES costs.lanes then
    if is_in_range (MIN_KIB_PER_LANE * costs.lanes) MAX_KIB costs.kib then Ok tt else Err Kib
    else Err Lanes
    else Err Passes
