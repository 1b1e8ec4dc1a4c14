-- Claims: which users hold which keys, as a finite set of pairs; the order in which they were made is not
-- observable.
use Rattle.std.specs.Prelude.{ℕ, Bool, not}
use Rattle.std.specs.declared.cmp.Ordering.{Ordering}
use Rattle.std.specs.Ordering.{nat_cmp, ordering_then}
use Rattle.std.specs.Cmp.Lexicographic.{slice_cmp}
use Rattle.std.specs.FinMap as map
use Rattle.policy_ctx.specs.declared.policy.KeyId.{KeyId}
use Rattle.policy_ctx.specs.KeyIds.{same_id}

-- the identifier of a key, and a user that holds it
abbrev pub Claim : Type 0
Claim = KeyId × ℕ

-- an order of identifiers, and one of claims, by identifier and then by user; any other would do
abbrev pub id_cmp : KeyId → KeyId → Ordering
id_cmp a b = slice_cmp nat_cmp a.0 b.0

abbrev pub claim_cmp : Claim → Claim → Ordering
claim_cmp a b = ordering_then (id_cmp a.0 b.0) (nat_cmp a.1 b.1)

-- a finite set of claims: a finite map with nothing at each of them
abbrev pub ClaimSet : Type 0
ClaimSet = map.FinMap claim_cmp (Unit {0})

abbrev pub no_claims : ClaimSet
no_claims = map.empty

-- whether this user holds the key
abbrev pub has_claim : ClaimSet → KeyId → ℕ → Bool
has_claim claims id user = map.contains_key claims (id, user)

-- the claims once this user holds the key; if it is held already they are as before
abbrev pub with_claim : ClaimSet → KeyId → ℕ → ClaimSet
with_claim claims id user = map.insert claims (id, user) tt

-- the others, once this user no longer holds the key
abbrev pub without_claim : ClaimSet → KeyId → ℕ → ClaimSet
without_claim claims id user = map.remove claims (id, user)

-- the others, once no user holds the key
abbrev pub without_id : ClaimSet → KeyId → ClaimSet
without_id claims id = map.retain_keys claims (λ claim. not (same_id claim.0 id))
