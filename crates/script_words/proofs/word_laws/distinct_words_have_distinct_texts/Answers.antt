use Rattle.script_words.proofs.EscapeLemmas.{word_text-injective}
use Rattle.script_words.proofs.word_laws.distinct_words_have_distinct_texts.Goals as goal

pub returns : goal.returns
returns c = word_text-injective
