-- The counter is the number of runs that are done.
use Rattle.std.proofs.Common.{◌≡◌, replicate}
use Rattle.std.specs.Fn.{iterate}
use Rattle.fsc_speed.specs.Runs.{next_iv}
use Rattle.fsc_speed.proofs.names.encrypt_names.Given as goal

abbrev pub invariant-loop : goal.invariant-loop
invariant-loop g l = l.iv ≡ iterate (next_iv l.key l.name) l.counter (replicate 16 0)
