use Rattle.std.proofs.Common.{◌+◌, ◌*◌, length}
use Rattle.script_runs.proofs.threads.+fn-run_all-join+arg2+fn-run_all-join+arg3+run_all.Given as goal

-- twice the sections that are left to run, and one more for a thread that runs them
abbrev pub decreases-join+arg2 : goal.decreases-join+arg2
decreases-join+arg2 g l = 2 * length l.lower.sections.now + 1

abbrev pub decreases-join+arg3 : goal.decreases-join+arg3
decreases-join+arg3 g l = 2 * length l.upper.sections.now + 1

abbrev pub decreases-run_all : goal.decreases-run_all
decreases-run_all g l = 2 * length l.callers.sections.now
