use Rattle.mount_model.proofs.OrderLemmas.{handles_keep_keyed, creations_need_keys, only_empty_ones}
use Rattle.mount_model.proofs.laws.refusals_come_in_their_order.Goals as goal

pub returns-clause-keyed : goal.returns-clause-keyed
returns-clause-keyed c = handles_keep_keyed

pub returns-clause-create : goal.returns-clause-create
returns-clause-create c = creations_need_keys

pub returns-clause-encrypt : goal.returns-clause-encrypt
returns-clause-encrypt c = only_empty_ones
