-- The table has the keys of the schedule.
use Rattle.aes_core.proofs.ZeroKey.{zero_keys}
use Rattle.aes_core.proofs.zero_key.round_keys_of_zeros.Goals as goal

pub returns : goal.returns
returns c = zero_keys
