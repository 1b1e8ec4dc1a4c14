-- The laws on texts are the lemmas on them.
use Rattle.name_crypt.proofs.TextLemmas.{short_texts, long_texts}
use Rattle.name_crypt.proofs.name_laws.texts_stay_distinct.Goals as goal

pub returns-clause-short : goal.returns-clause-short
returns-clause-short c = short_texts

pub returns-clause-long : goal.returns-clause-long
returns-clause-long c = long_texts
