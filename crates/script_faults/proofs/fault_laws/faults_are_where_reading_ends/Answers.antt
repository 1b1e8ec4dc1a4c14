use Rattle.script_faults.proofs.FaultLemmas.{first_fault-number}
use Rattle.script_faults.proofs.fault_laws.faults_are_where_reading_ends.Goals as goal

pub returns : goal.returns
returns c text = first_fault-number text
