use Rattle.session_records.proofs.StretchingLemmas.{other_kind_is_not_stretched, raw_is_not_stretched}
use Rattle.session_records.proofs.opening.only_passphrases_are_stretched.Goals as goal

pub returns-clause-raw : goal.returns-clause-raw
returns-clause-raw c = raw_is_not_stretched

pub returns-clause-kind : goal.returns-clause-kind
returns-clause-kind c = other_kind_is_not_stretched
