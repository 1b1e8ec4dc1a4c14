-- What two hashers of an HMAC have taken before the message: the key's block under each pad.
use Rattle.std.specs.Prelude.{ℕ, List}
use Rattle.sha2.specs.Hashers.{Holds512}
use Rattle.sha2.specs.declared.Sha512.{Sha512}
use Rattle.hmac_kdf.specs.Hmac.{hash_sha512, block_key, xor_each}

-- one has taken the inner pad of this key, the other the outer pad
pub record HavePads (key : List ℕ) (inner outer : Sha512) : Type 0 where
  pub inner_pad : Holds512 inner (xor_each 0x36 (block_key hash_sha512 key))
  pub outer_pad : Holds512 outer (xor_each 0x5c (block_key hash_sha512 key))
