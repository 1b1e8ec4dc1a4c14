-- The counter is the number of runs that are done.
use Rattle.std.proofs.Common.{◌≡◌}
use Rattle.std.specs.Fn.{iterate}
use Rattle.data_crypt.specs.Units.{sealed_block}
use Rattle.fsc_speed.proofs.sealing.repeat_seal.Given as goal

abbrev pub invariant-loop : goal.invariant-loop
invariant-loop l = l.block ≡ iterate (sealed_block l.key l.fn.unit 7) l.counter l.fn.block
