use Rattle.fsc_session.proofs.SerialLemmas.{lawful_serial}
use Rattle.fsc_session.proofs.laws.lawful_runs_are_one.Goals as goal

pub returns : goal.returns
returns c = lawful_serial
