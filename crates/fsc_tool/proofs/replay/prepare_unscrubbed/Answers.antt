use Rattle.std.proofs.Common.{rules}
use Rattle.fsc_tool.proofs.replay.prepare_unscrubbed.Goals as goal

pub returns-clause-prepared : goal.returns-clause-prepared
returns-clause-prepared g c = search rules

pub returns-in-Err-take_seed-clause-ended : goal.returns-in-Err-take_seed-clause-ended
returns-in-Err-take_seed-clause-ended g c = search rules
