-- How many keys a user holds, and how many users hold a key.
use Rattle.std.specs.Prelude.{◌≡◌, ℕ, ◌≤◌, Bool, false, not, ◌==◌}
use Rattle.std.specs.FinMap as map
use Rattle.policy_ctx.specs.declared.policy.KeyId.{KeyId}
use Rattle.policy_ctx.specs.KeyIds.{same_id}
use Rattle.user_claims.specs.declared.claims.TheConstants.{MAX_CLAIMS}
use Rattle.user_claims.specs.Claims.{ClaimSet, has_claim}

-- the claims of one user, and those on one key
abbrev pub claims_of_user : ClaimSet → ℕ → ClaimSet
claims_of_user claims user = map.retain_keys claims (λ claim. claim.1 == user)

abbrev pub claims_on_id : ClaimSet → KeyId → ClaimSet
claims_on_id claims id = map.retain_keys claims (λ claim. same_id claim.0 id)

-- how many keys the user holds
abbrev pub count_of_user : ClaimSet → ℕ → ℕ
count_of_user claims user = map.len (claims_of_user claims user)

-- how many users hold the key
abbrev pub count_of_id : ClaimSet → KeyId → ℕ
count_of_id claims id = map.len (claims_on_id claims id)

-- whether any user holds the key
abbrev pub is_present : ClaimSet → KeyId → Bool
is_present claims id = not (count_of_id claims id == 0)

-- a claim of this user on this key would be a new one, and the user has 64
abbrev pub IsOverQuota : ClaimSet → KeyId → ℕ → Type 0
IsOverQuota claims id user = (has_claim claims id user ≡ false) × (MAX_CLAIMS ≤ count_of_user claims user)
