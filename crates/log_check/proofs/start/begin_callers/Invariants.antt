use Rattle.log_check.proofs.StartLemmas.{AreFirst}
use Rattle.log_check.proofs.start.begin_callers.Given as goal

abbrev pub invariant-callers : goal.invariant-callers
invariant-callers g l = AreFirst l.seed l.script l.number l.callers.items
