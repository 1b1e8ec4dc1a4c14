use Rattle.std.proofs.Common.{rules}
use Rattle.fsc_tool.specs.Gen.{zero_seed}
use Rattle.fsc_tool.proofs.gen_runs.zero_seed.Goals as goal

pub returns : goal.returns
unfolding zero_seed
returns c = search rules
