use Rattle.mount_model.proofs.StepLemmas.{wanting-step}
use Rattle.mount_model.proofs.laws.some_calls_take_no_memory.Goals as goal

pub returns : goal.returns
returns c = wanting-step
