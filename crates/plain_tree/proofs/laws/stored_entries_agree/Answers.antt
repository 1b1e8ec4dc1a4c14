use Rattle.plain_tree.proofs.StoredLemmas.{searches_agree, puts_agree, removals_agree, stored_differ}
use Rattle.plain_tree.proofs.laws.stored_entries_agree.Goals as goal

pub returns-clause-searches : goal.returns-clause-searches
returns-clause-searches c = searches_agree

pub returns-clause-puts : goal.returns-clause-puts
returns-clause-puts c = puts_agree

pub returns-clause-removals : goal.returns-clause-removals
returns-clause-removals c = removals_agree

pub returns-clause-differ : goal.returns-clause-differ
returns-clause-differ c = stored_differ
