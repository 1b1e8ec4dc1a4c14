use Rattle.mount_shared.proofs.RemovalLemmas.{clearing_tells, removal_tells}
use Rattle.mount_shared.proofs.laws.removals_report_remaining_claims.Goals as goal

pub returns-clause-all : goal.returns-clause-all
returns-clause-all c = clearing_tells

pub returns-clause-own : goal.returns-clause-own
returns-clause-own c = removal_tells
