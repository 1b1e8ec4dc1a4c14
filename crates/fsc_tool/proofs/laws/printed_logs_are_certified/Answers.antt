use Rattle.fsc_tool.proofs.CheckLawLemmas.{certified}
use Rattle.fsc_tool.proofs.laws.printed_logs_are_certified.Goals as goal

pub returns : goal.returns
returns c = certified
