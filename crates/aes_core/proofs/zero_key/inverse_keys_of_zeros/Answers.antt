-- The table has the prepared keys.
use Rattle.aes_core.proofs.ZeroKey.{zero_inverse_keys}
use Rattle.aes_core.proofs.zero_key.inverse_keys_of_zeros.Goals as goal

pub returns : goal.returns
returns c = zero_inverse_keys
