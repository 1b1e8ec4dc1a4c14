use Rattle.script_faults.proofs.KindLemmas.{words_of_commands, commands_of_words}
use Rattle.script_faults.proofs.fault_laws.kinds_are_those_of_the_grammar.Goals as goal

pub returns : goal.returns
returns c = record { each = words_of_commands; all = commands_of_words }
