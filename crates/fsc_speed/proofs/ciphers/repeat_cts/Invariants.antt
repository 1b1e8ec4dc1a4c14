-- The counter is the number of runs that are done.
use Rattle.std.proofs.Common.{◌≡◌}
use Rattle.std.specs.Fn.{iterate}
use Rattle.cts_mode.specs.Cts.{cts_encrypted}
use Rattle.fsc_speed.specs.declared.ciphers.TheConstants.{IV}
use Rattle.fsc_speed.proofs.ciphers.repeat_cts.Given as goal

abbrev pub invariant-loop : goal.invariant-loop
invariant-loop l = l.text ≡ iterate (cts_encrypted l.key IV) l.counter l.fn.text
