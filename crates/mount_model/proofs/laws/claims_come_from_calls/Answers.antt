use Rattle.mount_model.proofs.HistoryLemmas.{claims-mount_after}
use Rattle.mount_model.proofs.laws.claims_come_from_calls.Goals as goal

pub returns : goal.returns
returns c = claims-mount_after
