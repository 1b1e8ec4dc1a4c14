-- The counter is the number of runs that are done.
use Rattle.std.proofs.Common.{◌≡◌, replicate}
use Rattle.std.specs.Fn.{iterate}
use Rattle.fsc_speed.specs.Runs.{next_stored_name}
use Rattle.fsc_speed.proofs.names.show_names.Given as goal

abbrev pub invariant-loop : goal.invariant-loop
invariant-loop l = l.bytes ≡ iterate next_stored_name l.counter (replicate 255 165)
