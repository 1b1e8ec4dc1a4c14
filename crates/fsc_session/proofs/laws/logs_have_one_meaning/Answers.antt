use Rattle.fsc_session.proofs.MeaningLemmas.{one_meaning}
use Rattle.fsc_session.proofs.laws.logs_have_one_meaning.Goals as goal

pub returns : goal.returns
returns c = one_meaning
