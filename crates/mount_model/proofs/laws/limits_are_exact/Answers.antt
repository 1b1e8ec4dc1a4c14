use Rattle.mount_model.proofs.LimitLemmas.{limits_exact}
use Rattle.mount_model.proofs.laws.limits_are_exact.Goals as goal

pub returns : goal.returns
returns c = limits_exact
