use Rattle.call_history.proofs.Ordering.{merged_by_callers, IsComplete_by_callers}
use Rattle.call_history.proofs.laws.callers_determine_history.Goals as goal

-- src/laws.rt:7:1
pub returns-clause-history : goal.returns-clause-history
returns-clause-history g c = merged_by_callers

-- src/laws.rt:7:1
pub returns-clause-complete : goal.returns-clause-complete
returns-clause-complete g c = IsComplete_by_callers
