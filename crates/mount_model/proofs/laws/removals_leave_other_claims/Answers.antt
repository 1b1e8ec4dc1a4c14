use Rattle.mount_model.proofs.RemovalLemmas.{others_stay, handles_keep, handles_told}
use Rattle.mount_model.proofs.laws.removals_leave_other_claims.Goals as goal

pub returns-clause-others : goal.returns-clause-others
returns-clause-others c = others_stay

pub returns-clause-state : goal.returns-clause-state
returns-clause-state c = handles_keep

pub returns-clause-told : goal.returns-clause-told
returns-clause-told c = handles_told
