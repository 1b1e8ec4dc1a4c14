use Rattle.linked_turns.proofs.MeaningLemmas.{one_meaning}
use Rattle.linked_turns.proofs.laws.linked_logs_have_one_meaning.Goals as goal

pub returns : goal.returns
returns c = one_meaning
