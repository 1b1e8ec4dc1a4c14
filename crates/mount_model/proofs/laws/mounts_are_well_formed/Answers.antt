use Rattle.mount_model.proofs.WellSteps.{mount_well}
use Rattle.mount_model.proofs.laws.mounts_are_well_formed.Goals as goal

pub returns : goal.returns
returns c = mount_well
