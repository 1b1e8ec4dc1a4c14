-- The counter is the number of runs that are done.
use Rattle.std.proofs.Common.{◌≡◌}
use Rattle.std.specs.Fn.{iterate}
use Rattle.xts_mode.specs.Xts.{xts_encrypted}
use Rattle.fsc_speed.proofs.ciphers.repeat_xts.Given as goal

abbrev pub invariant-loop : goal.invariant-loop
invariant-loop l = l.unit ≡ iterate (xts_encrypted l.key 7) l.counter l.fn.unit
