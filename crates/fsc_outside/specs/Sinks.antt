-- What the sinks in memory do, call by call.
use Rattle.std.specs.Prelude.{ℕ, ◌-◌, ◌≤◌, ◌<◌, ◌⊎◌, min, List, ◌++◌, length, take, Contains}
use Rattle.fsc_outside.specs.Causes.{one_more}

-- a sink in memory: the bytes got, its capacity, the maximal number of bytes that a call takes, the
-- numbers of the calls that fail, how many calls were made, and how many failed
pub record Tank : Type 0 where
  pub got : List ℕ
  pub room : ℕ
  pub piece : ℕ
  pub fails : List ℕ
  pub calls : ℕ
  pub faults : ℕ

-- whether the next call, with `count` bytes, fails: it is listed, or there are bytes and the sink is full
abbrev pub RefusesNext : Tank → ℕ → Type 0
RefusesNext tank count = Contains tank.fails tank.calls ⊎ ((0 < count) × (tank.room ≤ length tank.got))

-- how many of `count` bytes the next call takes
abbrev pub next_accepted : Tank → ℕ → ℕ
next_accepted tank count = min (min tank.piece count) (tank.room - length tank.got)

-- after a call that failed
abbrev pub failed_write : Tank → Tank
failed_write tank = record tank { calls = one_more tank.calls; faults = one_more tank.faults }

-- after a call that took n of the bytes
abbrev pub after_write : Tank → List ℕ → ℕ → Tank
after_write tank bytes n = record tank { got = tank.got ++ take n bytes; calls = one_more tank.calls }
