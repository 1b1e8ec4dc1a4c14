-- The counter is the number of runs that are done.
use Rattle.std.proofs.Common.{◌≡◌, replicate}
use Rattle.std.specs.Fn.{iterate}
use Rattle.fsc_speed.specs.Runs.{next_raw}
use Rattle.fsc_speed.proofs.names.derive_mode_keys.Given as goal

abbrev pub invariant-loop : goal.invariant-loop
invariant-loop l = l.raw ≡ iterate next_raw l.counter (replicate 64 90)
