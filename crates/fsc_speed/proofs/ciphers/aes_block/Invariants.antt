-- The counter is the number of runs that are done.
use Rattle.std.proofs.Common.{◌≡◌, replicate}
use Rattle.std.specs.Fn.{iterate}
use Rattle.aes_core.specs.Aes.{encrypted_block}
use Rattle.fsc_speed.proofs.ciphers.aes_block.Given as goal

abbrev pub invariant-loop : goal.invariant-loop
invariant-loop l = l.block ≡ iterate (encrypted_block l.key) l.counter (replicate 16 0)
