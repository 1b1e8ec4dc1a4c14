-- The counter is the number of runs that are done.
use Rattle.std.proofs.Common.{◌≡◌, ◌++◌, replicate}
use Rattle.std.specs.Fn.{iterate}
use Rattle.blake2_core.specs.Digest.{blake2b_digest}
use Rattle.fsc_speed.proofs.stretching.blake2b_digests.Given as goal

abbrev pub invariant-loop : goal.invariant-loop
invariant-loop l = l.digest ≡ iterate (λ d. blake2b_digest 64 (d ++ l.message)) l.counter (replicate 64 0)
