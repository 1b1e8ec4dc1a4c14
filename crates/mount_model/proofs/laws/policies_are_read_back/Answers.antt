use Rattle.mount_model.proofs.PolicyLemmas.{read_back}
use Rattle.mount_model.proofs.laws.policies_are_read_back.Goals as goal

pub returns : goal.returns
returns c = read_back
