use Rattle.log_check.proofs.LegalLemmas.{mounts_have_one_reply}
use Rattle.log_check.proofs.laws.mounts_have_one_reply.Goals as goal

pub returns : goal.returns
returns c = mounts_have_one_reply
