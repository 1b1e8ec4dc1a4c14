use Rattle.load_gen.proofs.ScriptLemmas.{IsSpelled-generated, parsed_script-generated}
use Rattle.load_gen.proofs.laws.generated_scripts_are_spelled.Goals as goal

pub returns-clause-spelled : goal.returns-clause-spelled
returns-clause-spelled c = IsSpelled-generated

pub returns-clause-reads_back : goal.returns-clause-reads_back
returns-clause-reads_back c = parsed_script-generated
