-- Each law is a lemma.
use Rattle.number_map.proofs.NumberedLemmas as lemma
use Rattle.number_map.proofs.laws.changes_leave_the_rest.Goals as goal

pub returns-clause-here : goal.returns-clause-here
returns-clause-here g c = record { inserted = lemma.insert_here; removed = lemma.remove_here; changed_value = lemma.changed_here }

pub returns-clause-others : goal.returns-clause-others
returns-clause-others g c = record { inserted = lemma.insert_other; removed = lemma.remove_other; changed_value = lemma.changed_other }

pub returns-clause-lengths : goal.returns-clause-lengths
returns-clause-lengths g c = record { added = lemma.len_added; replaced = lemma.len_replaced; removed = lemma.len_removed; changed_value = lemma.len_changed }

pub returns-clause-orders : goal.returns-clause-orders
returns-clause-orders g c = record { taken_back = lemma.removed_again; with_insert = lemma.changed_through; with_remove = lemma.removed_changed }

pub returns-clause-same : goal.returns-clause-same
returns-clause-same g c = lemma.same_numbered
