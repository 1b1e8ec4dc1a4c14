use Rattle.script_words.proofs.EscapeLemmas.{percent_encode-ESCAPED}
use Rattle.script_words.proofs.word.append_word.Goals as goal

pub returns-clause-appended : goal.returns-clause-appended
returns-clause-appended c = rw (← percent_encode-ESCAPED c.args.bytes.now, ← c.percent_encode.ensures.text) c.append_to.ensures.ok
