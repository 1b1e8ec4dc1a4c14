use Rattle.mount_model.proofs.LawfulLemmas.{legal_lawful, lawful_begins}
use Rattle.mount_model.proofs.laws.legal_histories_are_lawful.Goals as goal

pub returns-clause-legal : goal.returns-clause-legal
returns-clause-legal c = legal_lawful

pub returns-clause-begun : goal.returns-clause-begun
returns-clause-begun c = lawful_begins
