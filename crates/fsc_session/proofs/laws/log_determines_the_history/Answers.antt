use Rattle.fsc_session.proofs.MeaningLemmas.{told_determines}
use Rattle.fsc_session.proofs.laws.log_determines_the_history.Goals as goal

pub returns : goal.returns
returns c = told_determines
