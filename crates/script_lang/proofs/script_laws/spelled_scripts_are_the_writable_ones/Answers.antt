use Rattle.script_lang.proofs.RoundTrip.{IsSpelled-writable}
use Rattle.script_lang.proofs.script_laws.spelled_scripts_are_the_writable_ones.Goals as goal

pub returns : goal.returns
returns c = IsSpelled-writable
