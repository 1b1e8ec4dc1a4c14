-- The number of calling threads.
use Rattle.std.specs.Prelude.{ℕ}
use Rattle.fsc_speed.specs.declared.callers.Callers.{Callers}
use Rattle.fsc_speed.specs.declared.callers.Callers.TheVariants.{One, Two, Four}

abbrev pub number_of : Callers → ℕ
number_of One = 1
number_of Two = 2
number_of Four = 4
