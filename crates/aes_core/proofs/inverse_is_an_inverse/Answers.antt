-- By computation for each byte.
use Rattle.aes_core.proofs.Tables.{product-inverse}
use Rattle.aes_core.proofs.inverse_is_an_inverse.Goals as goal

pub returns : goal.returns
returns c = product-inverse
