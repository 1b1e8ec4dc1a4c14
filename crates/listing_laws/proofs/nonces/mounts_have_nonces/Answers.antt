use Rattle.listing_laws.proofs.NonceLemmas.{have_nonces}
use Rattle.listing_laws.proofs.nonces.mounts_have_nonces.Goals as goal

pub returns : goal.returns
returns c = have_nonces
