use Rattle.mount_model.proofs.HistoryLemmas.{calls_determine}
use Rattle.mount_model.proofs.laws.calls_determine_replies.Goals as goal

pub returns : goal.returns
returns c = calls_determine
