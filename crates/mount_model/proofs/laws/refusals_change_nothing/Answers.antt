use Rattle.mount_model.proofs.StepLemmas.{refused-step}
use Rattle.mount_model.proofs.laws.refusals_change_nothing.Goals as goal

pub returns : goal.returns
returns c = refused-step
