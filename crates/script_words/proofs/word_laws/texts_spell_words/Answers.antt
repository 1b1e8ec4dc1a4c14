use Rattle.script_words.proofs.EscapeLemmas.{IsWord-word_bytes, IsWord-target_bytes}
use Rattle.script_words.proofs.word_laws.texts_spell_words.Goals as goal

pub returns : goal.returns
returns c = record { words = IsWord-word_bytes; targets = IsWord-target_bytes }
