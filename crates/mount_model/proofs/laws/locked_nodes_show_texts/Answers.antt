use Rattle.mount_model.proofs.LockedLemmas.{locked_show_texts, what_keys_nodes}
use Rattle.mount_model.proofs.laws.locked_nodes_show_texts.Goals as goal

pub returns-clause-shown : goal.returns-clause-shown
returns-clause-shown c = locked_show_texts

pub returns-clause-keyed : goal.returns-clause-keyed
returns-clause-keyed c = what_keys_nodes
