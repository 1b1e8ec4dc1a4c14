use Rattle.fsc_tool.proofs.CheckLawLemmas.{never_refused}
use Rattle.fsc_tool.proofs.laws.printed_logs_are_not_refused.Goals as goal

pub returns : goal.returns
returns c = never_refused
