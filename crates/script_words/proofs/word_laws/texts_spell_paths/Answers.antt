use Rattle.script_words.proofs.PathLemmas.{IsPath-path_of}
use Rattle.script_words.proofs.word_laws.texts_spell_paths.Goals as goal

pub returns : goal.returns
returns c = IsPath-path_of
