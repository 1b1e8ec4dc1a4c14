use Rattle.script_runs.proofs.RotationLemmas.{told_alone}
use Rattle.script_runs.proofs.rotation.run_in_rotation.Goals as goal

pub returns : goal.returns
returns g c = told_alone _ _ _ _ _ _ c.in_ok-told.ensures
