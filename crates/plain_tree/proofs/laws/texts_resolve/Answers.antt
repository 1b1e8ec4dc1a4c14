use Rattle.plain_tree.proofs.SealLemmas as lemmas
use Rattle.plain_tree.proofs.laws.texts_resolve.Goals as goal

pub returns : goal.returns
returns c = lemmas.texts_resolve
