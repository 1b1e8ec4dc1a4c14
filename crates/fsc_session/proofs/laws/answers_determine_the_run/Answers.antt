use Rattle.mount_model.specs.PlainMount.{empty_mount}
use Rattle.fsc_session.specs.Rotation.{rotation_steps}
use Rattle.fsc_session.proofs.LawLemmas.{played_from}
use Rattle.fsc_session.proofs.laws.answers_determine_the_run.Goals as goal

pub returns : goal.returns
returns c seed script history after ran legal never = played_from empty_mount (rotation_steps seed script) history after ran legal never
