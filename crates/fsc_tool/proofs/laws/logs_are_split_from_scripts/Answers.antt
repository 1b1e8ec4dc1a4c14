use Rattle.fsc_tool.proofs.PrintedLemmas.{read_is}
use Rattle.fsc_tool.proofs.laws.logs_are_split_from_scripts.Goals as goal

pub returns : goal.returns
returns c = λ input log script is. read_is log input script is
