-- How claims are stored: the set, and beside it the count of each user and of each key.
use Rattle.std.specs.Prelude.{◌≡◌, ℕ, List, map}
use Rattle.std.specs.FinMap as finite
use Rattle.std.specs.Ordering.{nat_cmp}
use Rattle.std.specs.BTreeMap.{BTreeMap, get}
use Rattle.policy_ctx.specs.declared.policy.KeyId.{KeyId}
use Rattle.key_counts.specs.CountForms.{count_or_none}
use Rattle.user_claims.specs.Claims.{Claim, ClaimSet, id_cmp}
use Rattle.user_claims.specs.ClaimCounts.{count_of_user, count_of_id}

-- the set that the claims in the list are
abbrev pub set_of : List Claim → ClaimSet
set_of claims = finite.from_entries (map (λ claim. (claim, tt)) claims)

-- each user and each key has its count
pub record IsCounted (claims : ClaimSet) (by_user : BTreeMap ℕ ℕ) (by_id : BTreeMap KeyId ℕ) : Type 0 where
  pub users : (user : ℕ) → get nat_cmp by_user user ≡ count_or_none (count_of_user claims user)
  pub ids : (id : KeyId) → get id_cmp by_id id ≡ count_or_none (count_of_id claims id)
