use Rattle.script_words.proofs.EscapeLemmas.{word_bytes-word_text, target_bytes-word_text}
use Rattle.script_words.proofs.word_laws.words_read_back.Goals as goal

pub returns : goal.returns
returns c = record { words = word_bytes-word_text; targets = target_bytes-word_text }
