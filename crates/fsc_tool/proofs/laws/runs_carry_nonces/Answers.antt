use Rattle.fsc_tool.proofs.NonceLemmas.{run_nonces}
use Rattle.fsc_tool.proofs.laws.runs_carry_nonces.Goals as goal

pub returns : goal.returns
returns c = run_nonces
