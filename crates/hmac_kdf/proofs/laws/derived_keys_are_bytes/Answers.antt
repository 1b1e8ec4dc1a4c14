use Rattle.hmac_kdf.proofs.BytesLemmas.{sha256_derives, sha512_derives}
use Rattle.hmac_kdf.proofs.laws.derived_keys_are_bytes.Goals as goal

pub returns-clause-sha256 : goal.returns-clause-sha256
returns-clause-sha256 c = sha256_derives

pub returns-clause-sha512 : goal.returns-clause-sha512
returns-clause-sha512 c = sha512_derives
