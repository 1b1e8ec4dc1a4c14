use Rattle.script_lang.proofs.RoundTrip.{script_text-distinct}
use Rattle.script_lang.proofs.script_laws.distinct_scripts_have_distinct_texts.Goals as goal

pub returns : goal.returns
returns c = script_text-distinct
