-- The counter is the number of runs that are done.
use Rattle.std.proofs.Common.{◌≡◌, replicate}
use Rattle.std.specs.Fn.{iterate}
use Rattle.fsc_speed.specs.Runs.{next_nonce}
use Rattle.fsc_speed.proofs.names.derive_file_keys.Given as goal

abbrev pub invariant-loop : goal.invariant-loop
invariant-loop l = l.nonce ≡ iterate (next_nonce l.key) l.counter (replicate 16 0)
