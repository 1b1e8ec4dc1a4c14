use Rattle.log_check.proofs.StopLemmas.{not_refused}
use Rattle.log_check.proofs.laws.logs_of_runs_are_not_refused.Goals as goal

pub returns : goal.returns
returns c = not_refused
