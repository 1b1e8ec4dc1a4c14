use Rattle.std.proofs.Common.{◌+◌, ◌-◌, ◌*◌}
use Rattle.fsc_speed.proofs.mount.turns.+ask_all+fn-ask_all-join+arg2+fn-ask_all-join+arg3.Given as goal

-- twice the caller numbers that are left to run, and one more for a thread that runs them
abbrev pub decreases-join+arg2 : goal.decreases-join+arg2
decreases-join+arg2 g l = 2 * (l.pass.high - l.pass.who) + 1

abbrev pub decreases-join+arg3 : goal.decreases-join+arg3
decreases-join+arg3 g l = 2 * (l.upper.high - l.upper.who) + 1

abbrev pub decreases-ask_all : goal.decreases-ask_all
decreases-ask_all g l = 2 * (l.pass.high - l.pass.who)
