use Rattle.script_words.proofs.PartSteps.{reads_back}
use Rattle.script_words.proofs.path.write_path.Goals as goal

pub returns-clause-reads_back : goal.returns-clause-reads_back
returns-clause-reads_back c = reads_back c.args.path.now c.parts.result.now c.path_text.result c.parts.ensures.value c.parts.ensures.path c.path_text.ensures
