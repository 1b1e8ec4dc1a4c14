use Rattle.script_words.proofs.PathLemmas.{path_of-path_text}
use Rattle.script_words.proofs.word_laws.paths_read_back.Goals as goal

pub returns : goal.returns
returns c = path_of-path_text
