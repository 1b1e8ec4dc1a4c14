use Rattle.mount_model.proofs.FirstMount.{empty_well}
use Rattle.mount_model.proofs.WellSteps.{step_well}
use Rattle.mount_model.proofs.laws.steps_leave_well_formed_mounts.Goals as goal

pub returns-clause-first : goal.returns-clause-first
returns-clause-first c = empty_well

pub returns-clause-step : goal.returns-clause-step
returns-clause-step c = step_well
