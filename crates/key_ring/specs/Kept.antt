-- How secrets are stored; words of private functions.
use Rattle.std.specs.Prelude.{ℕ, List}
use Rattle.std.specs.Global.{Global}
use Rattle.std.specs.declared.boxed.Box.{Box}
use Rattle.policy_ctx.specs.declared.policy.KeyId.{KeyId}
use Rattle.user_claims.specs.Claims.{id_cmp}
use Rattle.key_counts.specs.MapViews.{map_by_order}
use Rattle.key_ring.specs.Holding.{SecretMap}

abbrev pub SecretBox : Type 0
SecretBox = Box (List ℕ) Global

-- the secrets in the boxes
abbrev pub secrets_of : List (KeyId × SecretBox) → SecretMap
secrets_of entries = map_by_order id_cmp (λ secret. secret.value) entries
