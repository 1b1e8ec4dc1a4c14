use Rattle.mount_model.proofs.LimitLemmas.{names_follow}
use Rattle.mount_model.proofs.laws.further_names_follow.Goals as goal

pub returns : goal.returns
returns c = names_follow
