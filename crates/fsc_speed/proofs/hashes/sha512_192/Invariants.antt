-- The counter is the number of runs that are done.
use Rattle.std.proofs.Common.{◌≡◌, ◌++◌, drop, replicate}
use Rattle.std.specs.Fn.{iterate}
use Rattle.sha2.specs.Sha512.{sha512}
use Rattle.fsc_speed.proofs.hashes.sha512_192.Given as goal

abbrev pub invariant-loop : goal.invariant-loop
invariant-loop l = l.message ≡ iterate (λ message. sha512 message ++ drop 64 message) l.counter (replicate 192 0)
