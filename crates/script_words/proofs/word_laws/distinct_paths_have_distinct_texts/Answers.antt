use Rattle.script_words.proofs.PathLemmas.{path_text-injective}
use Rattle.script_words.proofs.word_laws.distinct_paths_have_distinct_texts.Goals as goal

pub returns : goal.returns
returns c = path_text-injective
