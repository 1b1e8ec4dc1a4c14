use Rattle.script_lang.proofs.RoundTrip.{parsed_script-spelled}
use Rattle.script_lang.proofs.script_laws.what_is_written_is_a_script.Goals as goal

pub returns : goal.returns
returns c = parsed_script-spelled
