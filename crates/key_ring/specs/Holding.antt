-- What a key ring holds: claims, and secrets under the identifiers of their keys.
use Rattle.std.specs.Prelude.{◌≡◌, ℕ, List, Option, is_some, if◌then◌else◌}
use Rattle.std.specs.FinMap as map
use Rattle.policy_ctx.specs.declared.policy.KeyId.{KeyId}
use Rattle.user_claims.specs.Claims.{ClaimSet, id_cmp}
use Rattle.user_claims.specs.ClaimCounts.{is_present}

-- raw keys, each under the identifier of its key
abbrev pub SecretMap : Type 0
SecretMap = map.FinMap id_cmp (List ℕ)

pub record Holding : Type 0 where
  pub claims : ClaimSet
  pub secrets : SecretMap

-- the secret of the key, if the ring holds it
abbrev pub secret_of : Holding → KeyId → Option (List ℕ)
secret_of ring id = map.get ring.secrets id

-- a secret is held exactly when there is a claim
abbrev pub HoldsClaimedSecrets : Holding → Type 0
HoldsClaimedSecrets ring = (id : KeyId) → is_some (secret_of ring id) ≡ is_present ring.claims id

-- the secrets once these claims are left: the key without a claim has no secret
abbrev pub remaining_secrets : SecretMap → ClaimSet → KeyId → SecretMap
remaining_secrets secrets claims id = if is_present claims id then secrets else map.remove secrets id
