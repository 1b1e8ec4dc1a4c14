-- Each change preserves the agreement by a lemma.
use Rattle.number_map.proofs.NumberedLemmas as lemma
use Rattle.number_map.proofs.laws.changes_keep_agreement.Goals as goal

pub returns : goal.returns
returns g c f = record { inserted = lemma.agree_insert f; changed_value = lemma.agree_changed f; removed = lemma.agree_remove f }
